-- The lists of the full places below n. Assumes nothing.
use Rattle.std.proofs.Common.{◌≡◌, ℕ, zero, suc, ◌+◌, ◌<◌, ◌≤◌, length, refl, ap, append-nil, arith, length-append}
use Rattle.sparse.specs.Cells.{index_of, value_of, indexes_below, values_below}
use Rattle.sparse.specs.declared.Cell.{Cell}
use Rattle.sparse.specs.declared.Cell.TheVariants.{Empty, Full}

module _ (f : ℕ → Cell) where
  pub indexes_empty : (i : ℕ) → f i ≡ Empty → indexes_below f (suc i) ≡ indexes_below f i
  unfolding indexes_below
  indexes_empty i e = rw (e, append-nil)

  pub values_empty : (i : ℕ) → f i ≡ Empty → values_below f (suc i) ≡ values_below f i
  unfolding values_below
  values_empty i e = rw (e, append-nil)

  pub as_many : (k : ℕ) → length (values_below f k) ≡ length (indexes_below f k)
  unfolding indexes_below values_below
  as_many zero = refl
  as_many (suc k) = simp length-append (rw (as_many k) (ap (λ (n : ℕ). length (indexes_below f k) + n) (each (f k))))
    where
      each : (z : Cell) → length (value_of z) ≡ length (index_of z k)
      each Empty = refl
      each (Full v) = refl

  -- no more entries than places
  pub entries_most : (k : ℕ) → length (indexes_below f k) ≤ k
  unfolding indexes_below
  entries_most zero = omega arith
  entries_most (suc k) = rw length-append (go (f k) (entries_most k))
    where
      go : (z : Cell) → length (indexes_below f k) ≤ k → length (indexes_below f k) + length (index_of z k) ≤ suc k
      go Empty h = omega arith
      go (Full v) h = omega arith

-- functions that agree below n have the same entries
pub entries_same : (f g : ℕ → Cell) (n : ℕ) → ((k : ℕ) → k < n → f k ≡ g k)
    → (indexes_below f n ≡ indexes_below g n) × (values_below f n ≡ values_below g n)
unfolding indexes_below values_below
entries_same f g zero same = (refl, refl)
entries_same f g (suc n) same =
    let r = entries_same f g n (λ k h. same k (omega arith)) in
    let e = same n (omega arith) in
    (rw (r.0, e), rw (r.1, e))
