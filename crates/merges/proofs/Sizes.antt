-- How many entries two vectors of equal dims give: no more than both have, and no more than there are places. Assumes nothing.
use Rattle.std.proofs.Common.{ℕ, zero, suc, ◌+◌, ◌≤◌, arith, Bool, true, false, cond, ◌≡◌, ap, length, length-append, Float}
use lib.Ieee.{binary32, add, sub, mul}
use Rattle.sparse.specs.Cells.{is_zero, keep, index_of, indexes_below}
use Rattle.sparse.specs.Vectors.{Vector, size, at}
use Rattle.sparse.specs.Sound.{Sound}
use Rattle.sparse.specs.declared.Cell.{Cell}
use Rattle.sparse.specs.declared.Cell.TheVariants.{Empty, Full}
use Rattle.sparse.proofs.Entries.{entries_most}
use Rattle.sparse.proofs.Slices.{rebuilt}
use Rattle.merges.specs.Algebra.{joined, joins}
use Rattle.merges.specs.declared.Op.{Op}
use Rattle.merges.specs.declared.Op.TheVariants.{Add, Sub, Mul}
use Rattle.merges.proofs.Made.{join_at}

-- one entry at most
keep_one : (w : Float) (k : ℕ) → length (index_of (keep w) k) ≤ 1
keep_one w k = go (is_zero w)
  where
    go : (b : Bool) → length (index_of (cond b Empty (Full w)) k) ≤ 1
    go true = omega arith
    go false = omega arith

-- no entry at a place where both have none
joined_few : (op : Op) (x y : Cell) (k : ℕ) → length (index_of (joined op x y) k) ≤ length (index_of x k) + length (index_of y k)
joined_few Add Empty y k = omega arith
joined_few Add (Full a) Empty k = omega arith
joined_few Add (Full a) (Full b) k = omega (arith, keep_one (add binary32 a b) k)
joined_few Sub Empty Empty k = omega arith
joined_few Sub Empty (Full b) k = omega arith
joined_few Sub (Full a) Empty k = omega arith
joined_few Sub (Full a) (Full b) k = omega (arith, keep_one (sub binary32 a b) k)
joined_few Mul Empty y k = omega arith
joined_few Mul (Full a) Empty k = omega arith
joined_few Mul (Full a) (Full b) k = omega (arith, keep_one (mul binary32 a b) k)

below_few : (op : Op) (f g : ℕ → Cell) (n : ℕ)
    → length (indexes_below (λ k. joined op (f k) (g k)) n) ≤ length (indexes_below f n) + length (indexes_below g n)
unfolding indexes_below
below_few op f g zero = omega arith
below_few op f g (suc n) = simp length-append (omega (arith, joined_few op (f n) (g n) n, below_few op f g n))

module _ (op : Op) (a b : Vector) where
  pub joins_most : size (joins op a b) ≤ a.dims
  joins_most = entries_most (join_at op a b) a.dims

  pub joins_size : Sound a → Sound b → a.dims ≡ b.dims → size (joins op a b) ≤ size a + size b
  joins_size sa sb same =
      let ea : size a ≡ length (indexes_below (at a) a.dims) = ap size (rebuilt a sa) in
      let eb : size b ≡ length (indexes_below (at b) a.dims) = rw same (ap size (rebuilt b sb)) in
      omega (arith, below_few op (at a) (at b) a.dims)
