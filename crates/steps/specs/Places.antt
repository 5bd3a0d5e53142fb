-- Document 01, "Sparse algebra": what a place of two vectors gives. "Absent means zero. All float steps are binary32, nearest, ties to
-- even."
use Rattle.std.specs.Float.{binary32}
use Rattle.std.specs.Float.Ieee.{add, sub, mul, neg}
use Rattle.sparse.specs.Cells.{keep}
use Rattle.sparse.specs.declared.Cell.{Cell}
use Rattle.sparse.specs.declared.Cell.TheVariants.{Empty, Full}

-- "an index in one operand keeps that value, an index in both gets the sum; zeros are dropped"
abbrev pub added : Cell → Cell → Cell
added Empty y = y
added (Full a) Empty = Full a
added (Full a) (Full b) = keep (add binary32 a b)

-- "the same with a minus b; an entry only in b is negated"
abbrev pub subtracted : Cell → Cell → Cell
subtracted Empty Empty = Empty
subtracted Empty (Full b) = Full (neg b)
subtracted (Full a) Empty = Full a
subtracted (Full a) (Full b) = keep (sub binary32 a b)

-- "indexes in both only, products that are zero dropped"
abbrev pub multiplied : Cell → Cell → Cell
multiplied Empty y = Empty
multiplied (Full a) Empty = Empty
multiplied (Full a) (Full b) = keep (mul binary32 a b)
