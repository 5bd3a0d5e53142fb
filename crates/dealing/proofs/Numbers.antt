-- Whole numbers at a place: two entries added, what a row of whole numbers holds, and the totals and magnitudes of rows joined.
-- Assumes nothing.
use Prim.Native.Nat.{ℕ, ◌+◌, ◌≤◌}
use native.Mathlib.Omega.{arith}
use mathlib.Core.Bool.{Bool, true, false, cond}
use mathlib.Core.List.{List, ◌++◌, map-append}
use mathlib.Core.Path.{◌≡◌, refl, sym, ap, ◌∙◌}
use lib.Dec.{T, eqb}
use lib.IntN.{ℤ, nat_abs, ◌+ℤ◌, +ℤ_idl, +ℤ_idr}
use lib.Ieee.{Float, binary32, fits}
use borrow.Author.Tests.{eqb-true, eqb-false}
use Rattle.whole.specs.Whole.{integral, integer, Holds}
use Rattle.whole.specs.Sums.{all}
use Rattle.whole.proofs.Sizes.{size_add, size_zero}
use Rattle.whole.proofs.Holds.{holds_of_int, holds_own, add_whole}
use Rattle.whole.proofs.Order.{holds_eq_zero}
use Rattle.whole.proofs.Numbers.{integral_holds, zero32}
use Rattle.whole.proofs.Folds.{sum_append, weight_append}
use Rattle.sparse.specs.Cells.{is_zero}
use Rattle.sparse.specs.Vectors.{Vector, at}
use Rattle.sparse.specs.Sound.{Sound}
use Rattle.sparse.specs.Numbers.{number_at}
use Rattle.sparse.specs.declared.Cell.{Cell}
use Rattle.sparse.specs.declared.Cell.TheVariants.{Empty, Full}
use Rattle.sparse.proofs.Numbers.{passing_at}
use Rattle.sparse.proofs.Meaning.{at_nonzero}
use Rattle.steps.specs.Places.{added}
use Rattle.dealing.specs.Totals.{total_at, weight_at, entry, total}

-- ---- entries

-- a float that is an integer is a zero where the integer is 0
zero_test : {x : Float} {z : ℤ} → Holds x z → is_zero x ≡ eqb (nat_abs z) 0
zero_test h = rw zero32 (holds_eq_zero binary32 h)

-- two entries added are the entry of the sum
pub added_entry : (a b : ℤ) → nat_abs a + nat_abs b ≤ 16777216 → added (entry total a) (entry total b) ≡ entry total (a +ℤ b)
added_entry a b h = go (eqb (nat_abs a) 0) (eqb (nat_abs b) 0) refl refl
  where
    go : (p q : Bool) → eqb (nat_abs a) 0 ≡ p → eqb (nat_abs b) 0 ≡ q
        → added (cond p Empty (Full (total a))) (cond q Empty (Full (total b))) ≡ entry total (a +ℤ b)
    go true q d e = rw (size_zero a (eqb-true (nat_abs a) 0 d), +ℤ_idl b, e)
    go false true d e = rw (size_zero b (eqb-true (nat_abs b) 0 e), +ℤ_idr a, d)
    go false false d e =
        rw (add_whole binary32 a b (omega arith) (omega arith), zero_test (holds_of_int binary32 (a +ℤ b) (omega (arith, size_add a b))))

-- ---- rows

-- what a row of whole numbers holds is the entry of its number
pub row_entry : (v : Vector) → Sound v → T (all (fits binary32) v.values) → T (all integral v.values) → (k : ℕ)
    → nat_abs (number_at (at v k)) ≤ 16777216 → at v k ≡ entry total (number_at (at v k))
row_entry v s f i k = go (at v k) refl
  where
    go : (x : Cell) → at v k ≡ x → nat_abs (number_at x) ≤ 16777216 → x ≡ entry total (number_at x)
    go Empty e l = refl
    go (Full w) e l =
        let h = integral_holds w (passing_at integral v i k w e) in
        let some : eqb (nat_abs (integer w)) 0 ≡ false = sym (zero_test h) ∙ at_nonzero v s k w e in
        rw some (ap Full (holds_own binary32 (omega (arith, eqb-false)) l (passing_at (fits binary32) v f k w e) h))

-- ---- rows joined

-- their totals
pub total_append : (xs ys : List Vector) (k : ℕ) → total_at (xs ++ ys) k ≡ total_at xs k +ℤ total_at ys k
total_append xs ys k = rw (map-append, sum_append)

-- their magnitudes
pub weight_both : (xs ys : List Vector) (k : ℕ) → weight_at (xs ++ ys) k ≡ weight_at xs k + weight_at ys k
weight_both xs ys k = rw (map-append, weight_append)
