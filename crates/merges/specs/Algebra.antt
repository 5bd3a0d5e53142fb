-- Document 01, "Sparse algebra": the sum, the difference and the product of two vectors, place by place. "Absent means zero. All float
-- steps are binary32, nearest, ties to even."
use Rattle.std.specs.Prelude.{ℕ, suc, ◌+◌, ◌-◌, min, ◌||◌, cond, eqb, get_or}
use Rattle.places.specs.Below.{count_below}
use Rattle.sparse.specs.Vectors.{Vector, size, at, vector_of, in_union}
use Rattle.sparse.specs.declared.Cell.{Cell}
use Rattle.steps.specs.Places.{added, subtracted, multiplied}
use Rattle.merges.specs.declared.Op.{Op}
use Rattle.merges.specs.declared.Op.TheVariants.{Add, Sub, Mul}

abbrev pub joined : Op → Cell → Cell → Cell
joined Add = added
joined Sub = subtracted
joined Mul = multiplied

-- the vector that two vectors of equal dims give
abbrev pub joins : Op → Vector → Vector → Vector
joins op a b = vector_of a.dims (λ k. joined op (at a k) (at b k))

-- "the number of distinct indexes in the union, dropped ones included"
abbrev pub union_turns : Vector → Vector → ℕ
union_turns a b = count_below (in_union a b) a.dims

-- the place after "the smaller of the two last indexes"; "0 if either is empty"
abbrev pub common_end : Vector → Vector → ℕ
common_end a b =
    cond (eqb (size a) 0 || eqb (size b) 0) 0
    (suc (min (get_or a.indexes (size a - 1) 0) (get_or b.indexes (size b - 1) 0)))

-- "distinct union indexes not above the smaller of the two last indexes"
abbrev pub common_turns : Vector → Vector → ℕ
common_turns a b = count_below (in_union a b) (common_end a b)

abbrev pub turns_of : Op → Vector → Vector → ℕ
turns_of Add = union_turns
turns_of Sub = union_turns
turns_of Mul = common_turns

-- The room of vectors of d dims that have m and n entries. "The room for add and sub becomes the smaller of len a + len b and dims"
-- (request #104); for mul it is "the smaller length."
abbrev pub room_for : Op → ℕ → ℕ → ℕ → ℕ
room_for Add d m n = min (m + n) d
room_for Sub d m n = min (m + n) d
room_for Mul d m n = min m n
