-- Document 01, "Aggregate states": the turns of a row that merges into a state.
use Rattle.std.specs.Prelude.{ℕ, ◌&&◌, leb, get_or}
use Rattle.places.specs.Below.{count_below}
use Rattle.sparse.specs.Vectors.{Vector, in_union}

-- the first index of a vector, and its dims where it has none
abbrev pub first_index : Vector → ℕ
first_index v = get_or v.indexes 0 v.dims

-- "Turns: union indexes not below the row's first index; 0 for an empty row": then no place below dims is at or above the first index
abbrev pub row_turns : Vector → Vector → ℕ
row_turns a b = count_below (λ k. leb (first_index b) k && in_union a b k) a.dims
