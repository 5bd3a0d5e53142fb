-- The header of a state as a list of seven numbers: start, length, begun (1 or 0), dims, len, capacity, count.
use Rattle.std.specs.Prelude.{ℕ, Bool, true, cond, ◌||◌, List, ◌∷◌, ltb, get_or, Result, Ok, Err}
use Rattle.refusal.specs.Answers.{Says, refused}
use Rattle.refusal.specs.declared.Refusal.{Refusal}
use Rattle.aggregate_svecf32.specs.States.{header, header_from}
use Rattle.aggregate_svecf32.specs.Calls.{told_says}
use Rattle.aggregate_svecf32.specs.declared.Header.{Header}

-- no header has these numbers: begun is neither 0 nor 1, or dims is above the largest u32
abbrev pub no_header : ℕ → ℕ → Bool
no_header begun d = ltb 1 begun || ltb 4294967295 d

-- a header of this region that is never consistent: it has begun, with dims 0
abbrev pub bad_header : ℕ → ℕ → Header
bad_header start length = header start length true 0 0 0 0

-- the header that a list of numbers is
abbrev pub header_of : List ℕ → Header
header_of ns =
    let at : ℕ → ℕ = λ i. get_or ns i 0 in cond (no_header (at 2) (at 3)) (bad_header (at 0) (at 1)) (header_from ns)

-- what a call answers, and the header afterwards
abbrev pub Outcome : Type 0
Outcome = Result ℕ Refusal × Header

-- what that says, as a caller finds it whose header had the numbers `old`: a refusal leaves them as they were, also where they are those of no
-- header
abbrev pub answer_heard : List ℕ → Result ℕ Refusal → Header → Says
answer_heard old (Ok turns) h = told_says h (Ok turns)
answer_heard old (Err r) h = refused r (0 ∷ old)

abbrev pub told_heard : List ℕ → Outcome → Says
told_heard old t = answer_heard old t.0 t.1
