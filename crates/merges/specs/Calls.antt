-- What add, sub and mul promise: the tests in their order, the answer, and what is left in the lent lists.
use Rattle.std.specs.Prelude.{ℕ, List, [], ◌∷◌, Result, length, Float}
use Rattle.refusal.specs.Answers.{Checked, next, merged_says}
use Rattle.refusal.specs.declared.Merged.{Merged}
use Rattle.refusal.specs.declared.Refusal.{Refusal}
use Rattle.sparse.specs.Vectors.{Vector, size}
use Rattle.sparse.specs.Calls.{pair_of, room_of, WritesPair}
use Rattle.merges.specs.Algebra.{joins, turns_of, room_for}
use Rattle.merges.specs.declared.Op.{Op}

-- a vector of d places that has n entries is written, after so many turns
abbrev pub merged : ℕ → ℕ → ℕ → Merged
merged d n turns = record { dims = d; len = n; turns = turns }

-- the vector v is written, after so many turns
abbrev pub Merges : Checked → Vector → ℕ → List ℕ → List Float → Result Merged Refusal → List ℕ → List Float → Type 0
Merges due v turns = WritesPair merged_says (v.dims ∷ size v ∷ turns ∷ []) (merged v.dims (size v) turns) due v

-- what two vectors give is written
abbrev pub Joins : Op → Vector → Vector → List ℕ → List Float → Result Merged Refusal → List ℕ → List Float → Type 0
Joins op a b oi ov =
    Merges (next (pair_of a b) (room_of (room_for op a.dims (size a) (size b)) (length oi) (length ov))) (joins op a b) (turns_of op a b) oi ov
