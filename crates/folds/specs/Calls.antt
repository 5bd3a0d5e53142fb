-- What dot, L2 and the three sums promise: the tests in their order, and the answer.
use Rattle.std.specs.Prelude.{List, [], ◌∷◌, Float, Result, Ok, Err}
use Rattle.refusal.specs.Answers.{Says, gives, refused, Answers, Measures}
use Rattle.refusal.specs.declared.Refusal.{Refusal}
use Rattle.sparse.specs.Vectors.{Vector}
use Rattle.sparse.specs.Calls.{pair_of}
use Rattle.sums.specs.Sums.{Kind, Difference, sum_of, dot_of, three_of}
use Rattle.sums.specs.declared.Three.{Three}

-- the products, and the squares of either side
abbrev pub floats_of : Three → List Float
floats_of t = t.xy ∷ t.x2 ∷ t.y2 ∷ []

-- three floats or a refusal, never both
abbrev pub summed_says : Result Three Refusal → Says
summed_says (Ok t) = gives 0 0 [] (floats_of t)
summed_says (Err r) = refused r []

-- a sum over two vectors, after their tests
abbrev pub Distances : Kind → Vector → Vector → Result Float Refusal → Type 0
Distances kind a b = Measures (sum_of kind a b) (pair_of a b)

abbrev pub Dots : Vector → Vector → Result Float Refusal → Type 0
Dots a b = Measures (dot_of a b) (pair_of a b)

abbrev pub L2s : Vector → Vector → Result Float Refusal → Type 0
L2s = Distances Difference

abbrev pub SumsThree : Vector → Vector → Result Three Refusal → Type 0
SumsThree a b = Answers summed_says [] (floats_of (three_of a b)) (three_of a b) (pair_of a b)
