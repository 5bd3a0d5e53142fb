-- Whole numbers of rows, their totals at each index, and the totals divided once by a count.
use Rattle.std.specs.Prelude.{ℕ, cond, List, map, eqb, ℤ, pos, nat_abs, length, Float}
use Rattle.std.specs.Float.{binary32}
use Rattle.std.specs.Float.Ieee.{of_int, div}
use Rattle.whole.specs.Sums.{sumℤ, weight}
use Rattle.sparse.specs.Numbers.{number_at}
use Rattle.sparse.specs.Vectors.{Vector, at, vector_of}
use Rattle.sparse.specs.declared.Cell.{Cell}
use Rattle.sparse.specs.declared.Cell.TheVariants.{Empty, Full}

-- the whole numbers that the rows have at the place k; "Absent means zero."
abbrev pub numbers_at : List Vector → ℕ → List ℤ
numbers_at rows k = map (λ (v : Vector). number_at (at v k)) rows

-- the "whole-number totals", as integers
abbrev pub total_at : List Vector → ℕ → ℤ
total_at rows k = sumℤ (numbers_at rows k)

-- the "magnitudes at each index" added up
abbrev pub weight_at : List Vector → ℕ → ℕ
weight_at rows k = weight (numbers_at rows k)

-- an entry for a whole number that is not 0
abbrev pub entry : (ℤ → Float) → ℤ → Cell
entry float z = cond (eqb (nat_abs z) 0) Empty (Full (float z))

-- the float of a whole number, and that float divided once by a count
abbrev pub total : ℤ → Float
total = of_int binary32

abbrev pub share : ℕ → ℤ → Float
share count z = div binary32 (of_int binary32 z) (of_int binary32 (pos count))

-- "exactly the nonzero whole-number totals in rising index order"
abbrev pub totals : ℕ → List Vector → Vector
totals d rows = vector_of d (λ k. entry total (total_at rows k))

-- "each total divided once by the count"
abbrev pub averages : ℕ → List Vector → Vector
averages d rows = vector_of d (λ k. entry (share (length rows)) (total_at rows k))
