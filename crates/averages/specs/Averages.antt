-- Document 01, "Aggregate states": the average.
use Rattle.std.specs.Prelude.{ℕ, pos}
use Rattle.std.specs.Float.{binary32}
use Rattle.std.specs.Float.Ieee.{of_int, div}
use Rattle.sparse.specs.Cells.{keep}
use Rattle.sparse.specs.Vectors.{Vector, at, vector_of}
use Rattle.sparse.specs.declared.Cell.{Cell}
use Rattle.sparse.specs.declared.Cell.TheVariants.{Empty, Full}

-- "Average divides each value once by the count as f32 and drops zero quotients." Request #109: by "the count rounded to the nearest f32, ties
-- to even" (`of_nearest`, rounding/proofs/Nearest)
abbrev pub over : ℕ → Cell → Cell
over n Empty = Empty
over n (Full v) = keep (div binary32 v (of_int binary32 (pos n)))

abbrev pub shared : ℕ → Vector → Vector
shared n v = vector_of v.dims (λ k. over n (at v k))
