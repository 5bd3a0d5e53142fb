-- What the calls of `bit_distances` promise: the tests of each in their order, and the answer.
use Rattle.std.specs.Prelude.{Bool, cond, Float, Result}
use Rattle.refusal.specs.Answers.{Measures}
use Rattle.refusal.specs.declared.Refusal.{Refusal}
use Rattle.bits.specs.Vectors.{BitVector}
use Rattle.bits.specs.Calls.{pair_of}
use Rattle.bit_distances.specs.Distances.{dot_of, hamming_of, jaccard_of, jaccard_or_nan_of}

-- the distances, each after the tests of two vectors
abbrev pub Dots : BitVector → BitVector → Result Float Refusal → Type 0
Dots a b = Measures (dot_of a.dims a.words b.words) (pair_of a b)

abbrev pub Hammings : BitVector → BitVector → Result Float Refusal → Type 0
Hammings a b = Measures (hamming_of a.dims a.words b.words) (pair_of a b)

abbrev pub Jaccards : BitVector → BitVector → Result Float Refusal → Type 0
Jaccards a b = Measures (jaccard_of a.dims a.words b.words) (pair_of a b)

abbrev pub JaccardsOrNan : BitVector → BitVector → Result Float Refusal → Type 0
JaccardsOrNan a b = Measures (jaccard_or_nan_of a.dims a.words b.words) (pair_of a b)

-- both in one, for the function that they share: whether two vectors without ones are alike
abbrev pub JaccardsIf : Bool → BitVector → BitVector → Result Float Refusal → Type 0
JaccardsIf alike a b = Measures (cond alike (jaccard_of a.dims a.words b.words) (jaccard_or_nan_of a.dims a.words b.words)) (pair_of a b)
