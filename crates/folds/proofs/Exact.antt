-- Dot and L2 of whole numbers are exact where the terms' magnitudes add up to at most 16,777,216. Assumes nothing.
use Prim.Native.Nat.{ℕ, zero, suc, ◌≤◌}
use native.Mathlib.Omega.{arith}
use mathlib.Core.Path.{◌≡◌, refl, ap}
use lib.IntN.{ℤ, pos, nat_abs, ◌+ℤ◌, ◌-ℤ◌, ◌*ℤ◌, +ℤ_idr}
use lib.Ieee.{binary32, of_int, add, sub, mul, neg}
use Rattle.whole.specs.Whole.{integral, integer, Holds}
use Rattle.whole.proofs.Sizes.{size_add, size_mul, size_zero, square_le}
use Rattle.whole.proofs.Holds.{holds_of_int, holds_sub, holds_mul, add_exact}
use Rattle.whole.proofs.Numbers as numbers
use Rattle.whole.proofs.Numbers.{integral_holds}
use Rattle.sparse.specs.Cells.{zero32, fold_below}
use Rattle.sparse.specs.Vectors.{Vector, at}
use Rattle.sparse.specs.Numbers.{Whole, number_at}
use Rattle.sparse.specs.declared.Cell.{Cell}
use Rattle.sparse.specs.declared.Cell.TheVariants.{Empty, Full}
use Rattle.sparse.proofs.Numbers.{Passing, passing_at}
use Rattle.sums.specs.Sums.{Kind, Product, Difference, dense, step_of, sum_of, dot_of}
use Rattle.folds.specs.Exact.{term_of, term_at, total_below, weight_below}

-- ---- what stands at a place of a vector of whole numbers

abbrev Fair : Cell → Type 0
Fair = Passing integral

zero_holds : Holds zero32 (pos 0)
zero_holds = rw numbers.zero32 (holds_of_int binary32 (pos 0) (omega arith))

-- "Absent means zero."
fair_holds : (x : Cell) → Fair x → Holds (dense x) (number_at x)
fair_holds Empty t = zero_holds
fair_holds (Full v) t = integral_holds v (t v refl)

-- ---- one step

-- the sum is at most as large as the magnitudes
total_le : (f : ℕ → ℤ) (n : ℕ) → nat_abs (total_below f n) ≤ weight_below f n
unfolding total_below weight_below
total_le f zero = omega arith
total_le f (suc n) = omega (arith, size_add (total_below f n) (f n), total_le f n)

-- a square that is small enough, added to a sum
add_square : (z : ℤ) (x y : Cell) → Fair x → Fair y → nat_abs z ≤ 16777216 → nat_abs (term_of Difference (number_at x) (number_at y)) ≤ 16777216
    → let d = sub binary32 (dense x) (dense y) in
    add binary32 (of_int binary32 z) (mul binary32 d d) ≡ of_int binary32 (z +ℤ term_of Difference (number_at x) (number_at y))
add_square z x y fx fy hz ht =
    let d = number_at x -ℤ number_at y in
    let small : nat_abs d ≤ 16777216 = square_le (nat_abs d) (omega (arith, size_mul d d)) in
    let h = holds_sub binary32 small (fair_holds x fx) (fair_holds y fy) in
    add_exact binary32 z hz (holds_mul binary32 ht h h)

adds_nothing : (z t : ℤ) → nat_abs t ≡ 0 → of_int binary32 z ≡ of_int binary32 (z +ℤ t)
adds_nothing z t e = rw (size_zero t e, +ℤ_idr z)

step_exact : (kind : Kind) (z : ℤ) (x y : Cell) → Fair x → Fair y → nat_abs z ≤ 16777216 → nat_abs (term_of kind (number_at x) (number_at y)) ≤ 16777216
    → step_of kind (of_int binary32 z) x y ≡ of_int binary32 (z +ℤ term_of kind (number_at x) (number_at y))
step_exact Product z Empty y fx fy hz ht = adds_nothing z (pos 0 *ℤ number_at y) (omega (arith, size_mul (pos 0) (number_at y)))
step_exact Product z (Full a) Empty fx fy hz ht = adds_nothing z (integer a *ℤ pos 0) (omega (arith, size_mul (integer a) (pos 0)))
step_exact Product z (Full a) (Full b) fx fy hz ht = add_exact binary32 z hz (holds_mul binary32 ht (integral_holds a (fx a refl)) (integral_holds b (fy b refl)))
step_exact Difference z Empty Empty fx fy hz ht = adds_nothing z (pos 0) refl
step_exact Difference z Empty (Full b) fx fy hz ht = add_square z Empty (Full b) fx fy hz ht
step_exact Difference z (Full a) y fx fy hz ht = add_square z (Full a) y fx fy hz ht

-- ---- the sums

module _ (kind : Kind) (a b : Vector) (wa : Whole a) (wb : Whole b) where
  fold_exact : (n : ℕ) → weight_below (term_at kind a b) n ≤ 16777216
      → fold_below (step_of kind) zero32 (at a) (at b) n ≡ of_int binary32 (total_below (term_at kind a b) n)
  unfolding fold_below total_below weight_below
  fold_exact zero h = numbers.zero32
  fold_exact (suc n) h =
      rw (fold_exact n (omega arith))
      (step_exact kind (total_below (term_at kind a b) n) (at a n) (at b n)
      (passing_at integral a wa n) (passing_at integral b wb n)
      (omega (arith, total_le (term_at kind a b) n)) (omega arith))

  -- the sum over all places is the whole number's float
  pub sum_exact : weight_below (term_at kind a b) a.dims ≤ 16777216 → sum_of kind a b ≡ of_int binary32 (total_below (term_at kind a b) a.dims)
  sum_exact h = fold_exact a.dims h

-- dot is the negated whole number, -0 where it is 0
pub dot_exact : (a b : Vector) → Whole a → Whole b → weight_below (term_at Product a b) a.dims ≤ 16777216
    → dot_of a b ≡ neg (of_int binary32 (total_below (term_at Product a b) a.dims))
dot_exact a b wa wb h = ap neg (sum_exact Product a b wa wb h)

-- L2 is the whole number
pub l2_exact : (a b : Vector) → Whole a → Whole b → weight_below (term_at Difference a b) a.dims ≤ 16777216
    → sum_of Difference a b ≡ of_int binary32 (total_below (term_at Difference a b) a.dims)
l2_exact a b wa wb h = sum_exact Difference a b wa wb h
