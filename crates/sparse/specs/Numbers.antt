-- Vectors whose values are whole numbers.
use Rattle.std.specs.Prelude.{Bool, T, ℤ, pos}
use Rattle.whole.specs.Whole.{integral, integer}
use Rattle.whole.specs.Sums.{all}
use Rattle.sparse.specs.Vectors.{Vector}
use Rattle.sparse.specs.declared.Cell.{Cell}
use Rattle.sparse.specs.declared.Cell.TheVariants.{Empty, Full}

-- every value is a whole number
abbrev pub is_whole : Vector → Bool
is_whole v = all integral v.values

abbrev pub Whole : Vector → Type 0
Whole v = T (is_whole v)

-- the whole number at a place; "Absent means zero."
abbrev pub number_at : Cell → ℤ
number_at Empty = pos 0
number_at (Full v) = integer v
