-- Document 01, "The program": what is printed for a session.
use Rattle.std.specs.Prelude.{ℕ, min, List, ◌≡◌, length, take, Ok, Err}
use Rattle.refusal.specs.Answers.{Checked}
use Rattle.refusal.specs.Numbers.{number_of, place_of}
use Rattle.sparse.specs.Calls.{pair_of}
use Rattle.merges.specs.Algebra.{joins}
use Rattle.merges.specs.declared.Op.{Op}
use Rattle.texts.specs.Puts.{Puts}
use Rattle.texts.specs.Texts.{vector_text, refused_text, bad_text}
use Rattle.session.specs.Sessions.{Session, asks, bad, session_of}
use Rattle.entry_bits.specs.Operands.{Operand, valued, shown}

-- "A refusal prints `refused N P`."; else the vector that the two give
abbrev pub told : Checked → Op → Operand → Operand → List ℕ
told (Err r) op a b = refused_text (number_of r) (place_of r)
told (Ok u) op a b =
    let v = joins op (valued a) (valued b) in
    vector_text v.dims v.indexes (shown op a b v.indexes v.values)

-- "ahead of any refusal"
abbrev pub text_of : Session → List ℕ
text_of (bad l) = bad_text l
text_of (asks op a b) = told (pair_of (valued a) (valued b)) op a b

-- what is printed for the bytes s
unfoldable pub answer_of : List ℕ → List ℕ
answer_of s = text_of (session_of s)

-- ---- an input that was read to its end, or until a list was full

-- the first n bytes of `space` are what was read of the input s: all of it, or as many bytes as there is room for
pub record ReadOf (s space : List ℕ) (n : ℕ) : Type 0 where
  pub count : n ≡ min (length s) (length space)
  pub bytes : take n space ≡ take n s

-- what is printed for any such input stands in front of a list
abbrev pub Front : List ℕ → ℕ → List ℕ → ℕ → List ℕ → Type 0
Front space n out r out' = (s : List ℕ) → ReadOf s space n → Puts (answer_of s) 0 out r out'
