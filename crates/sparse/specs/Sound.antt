-- What a vector that passed its tests is, for the proofs and the loops. A user's promises do not cite these.
use Rattle.std.specs.Prelude.{◌≡◌, ℕ, ◌<◌, ◌≤◌, false, List, length, slice_index}
use Rattle.sparse.specs.Vectors.{Vector, size}
use Rattle.sparse.specs.Calls.{zero_at}

-- each index is below every later one
abbrev pub Rising : List ℕ → Type 0
Rising is = (i j : ℕ) → i < j → j < length is → slice_index is i < slice_index is j

-- the entries before p have indexes below k, and those from p on have not
pub record Split (is : List ℕ) (p k : ℕ) : Type 0 where
  pub within : p ≤ length is
  pub low : (j : ℕ) → j < p → slice_index is j < k
  pub high : (j : ℕ) → p ≤ j → j < length is → k ≤ slice_index is j

-- what a vector that passed its tests is
pub record Sound (v : Vector) : Type 0 where
  pub low : 1 ≤ v.dims
  pub high : v.dims ≤ 1048575
  pub even : size v ≡ length v.values
  pub rising : Rising v.indexes
  pub below : (j : ℕ) → j < size v → slice_index v.indexes j < v.dims
  pub nonzero : (j : ℕ) → j < size v → zero_at v.values j ≡ false
