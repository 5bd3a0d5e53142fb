-- Document 01, "Sparse algebra": dot, L2 and the three sums, step by step over the places in rising order. "All float steps are
-- binary32, nearest, ties to even."
use Rattle.std.specs.Prelude.{Float}
use Rattle.std.specs.Float.{binary32}
use Rattle.std.specs.Float.Ieee.{add, sub, mul, neg}
use Rattle.sparse.specs.Cells.{zero32, fold_below}
use Rattle.sparse.specs.Vectors.{Vector, at}
use Rattle.sparse.specs.declared.Cell.{Cell}
use Rattle.sparse.specs.declared.Cell.TheVariants.{Empty, Full}
use Rattle.sums.specs.declared.Three.{Three}

-- "add the products of common indexes"
abbrev pub product_step : Float → Cell → Cell → Float
product_step acc Empty y = acc
product_step acc (Full a) Empty = acc
product_step acc (Full a) (Full b) = add binary32 acc (mul binary32 a b)

-- "Absent means zero."
abbrev pub dense : Cell → Float
dense Empty = zero32
dense (Full v) = v

abbrev pub square_of : Float → Float
square_of d = mul binary32 d d

-- "for each union index .., d = a_i - b_i, add d*d"
abbrev pub difference_step : Float → Cell → Cell → Float
difference_step acc Empty Empty = acc
difference_step acc Empty (Full b) = add binary32 acc (square_of (sub binary32 zero32 b))
difference_step acc (Full a) y = add binary32 acc (square_of (sub binary32 a (dense y)))

-- what is added up: products of common entries, or squared differences
pub data Kind : Type 0 where
  Product : Kind
  Difference : Kind

abbrev pub step_of : Kind → Float → Cell → Cell → Float
step_of Product = product_step
step_of Difference = difference_step

-- "start at +0 .. in rising order"
abbrev pub sum_of : Kind → Vector → Vector → Float
sum_of kind a b = fold_below (step_of kind) zero32 (at a) (at b) a.dims

-- "negate the end"
abbrev pub dot_of : Vector → Vector → Float
dot_of a b = neg (sum_of Product a b)

-- "each operand's own squares"
abbrev pub square_step : Float → Cell → Float
square_step acc Empty = acc
square_step acc (Full a) = add binary32 acc (square_of a)

-- "One walk gives three f32 sums together: xy as in dot before the negation, x2 and y2 over each operand's own squares in rising order,
-- all from +0."
abbrev pub three_step : Three → Cell → Cell → Three
three_step t x y = record { xy = product_step t.xy x y; x2 = square_step t.x2 x; y2 = square_step t.y2 y }

abbrev pub zero_three : Three
zero_three = record { xy = zero32; x2 = zero32; y2 = zero32 }

abbrev pub three_of : Vector → Vector → Three
three_of a b = fold_below three_step zero_three (at a) (at b) a.dims
