-- What an exported call gives: the number, the slots and the floats that stand for what an answer of the call below says.
use Rattle.std.specs.Prelude.{ℕ, List, [], ◌∷◌, ◌≡◌, Float, Result, Ok, Err}
use Rattle.refusal.specs.Answers.{Says, gives}
use Rattle.refusal.specs.Numbers.{number_of, place_of}
use Rattle.refusal.specs.declared.Refusal.{Refusal}

-- what was given is what an answer tells that keeps the promise of the call below
pub record Tells {A B : Type 0} (tells_of : A → B) (Keeps : A → Type 0) (given : B) : Type 0 where
  pub answer : A
  pub kept : Keeps answer
  pub same : tells_of answer ≡ given

-- slots for floats afterwards: where an answer has none they stay as they were
abbrev pub filled : List Float → List Float → List Float
filled old [] = old
filled old (x ∷ xs) = x ∷ xs

-- what is said, as a caller finds it whose slots for floats had `old`: "a distance call answers a float or a refusal number, never both", so a
-- refusal leaves them
abbrev pub heard : List Float → Says → Says
heard old s = gives s.number s.place s.values (filled old s.floats)

-- the number of an answer, 0 for one that is no refusal, and its place
abbrev pub number_told : {A : Type 0} → Result A Refusal → ℕ
number_told (Ok x) = 0
number_told (Err r) = number_of r

abbrev pub place_told : {A : Type 0} → Result A Refusal → ℕ
place_told (Ok x) = 0
place_told (Err r) = place_of r
