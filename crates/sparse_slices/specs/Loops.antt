-- What the loop over entries is handed. A user's promises do not cite this.
use Rattle.std.specs.Prelude.{ℕ, ◌≤◌, ◌<◌, List, length, slice_index}

-- the indexes are not below `start`
abbrev pub Above : List ℕ → ℕ → Type 0
Above is start = (j : ℕ) → j < length is → start ≤ slice_index is j
