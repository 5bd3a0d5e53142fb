-- A sparse vector: its dims, and the indexes and the values of its entries.
use Rattle.std.specs.Prelude.{ℕ, Bool, ◌||◌, List, length, Float}
use Rattle.sparse.specs.Cells.{full, look, indexes_below, values_below}
use Rattle.sparse.specs.declared.Cell.{Cell}
use Rattle.sparse.specs.declared.SVectBorrowed.{SVectBorrowed}

pub record Vector : Type 0 where
  pub dims : ℕ
  pub indexes : List ℕ
  pub values : List Float

abbrev pub vector : ℕ → List ℕ → List Float → Vector
vector d is vs = record { dims = d; indexes = is; values = vs }

-- a vector as a call is handed it
abbrev pub seen : SVectBorrowed → Vector
seen a = vector a.dims a.indexes.now a.values.now

-- the number of entries
abbrev pub size : Vector → ℕ
size v = length v.indexes

-- what stands at each place
abbrev pub at : Vector → ℕ → Cell
at v = look v.indexes v.values

-- the vector of d places that holds f k at each place k
abbrev pub vector_of : ℕ → (ℕ → Cell) → Vector
vector_of d f = vector d (indexes_below f d) (values_below f d)

-- the place k is in "the union of indexes" of two vectors
abbrev pub in_union : Vector → Vector → ℕ → Bool
in_union a b k = full (at a k) || full (at b k)
