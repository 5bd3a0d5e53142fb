-- Document 01, "The program": what the bytes of standard input mean. "two lines `v dims index:bits ...` .. and one line `add`, `sub` or
-- `mul`. .. Each line ends in a newline and has at most 4,096 bytes with it .. otherwise `bad line L` names the first bad, missing or extra
-- line, counted from 1, ahead of any refusal."
use Rattle.std.specs.Prelude.{ℕ, List, [], ◌∷◌, Option, Some, None}
use Rattle.merges.specs.declared.Op.{Op}
use Rattle.lines.specs.Lines.{Line, vector_line, bad_line}
use Rattle.reading.specs.Starts.{rest, first_vector, first_name}
use Rattle.entry_bits.specs.Operands.{Operand, operand}

-- a session asks for an operation on two vectors, or has a bad line
pub data Session : Type 0 where
  asks : Op → Operand → Operand → Session
  bad : ℕ → Session

-- what two vector lines, a line with an operation, and nothing after them ask; "the first bad, missing or extra line"
abbrev pub session : Line → Line → Option Op → List ℕ → Session
session bad_line b n extra = bad 1
session (vector_line d is bs) bad_line n extra = bad 2
session (vector_line d is bs) (vector_line e js cs) None extra = bad 3
session (vector_line d is bs) (vector_line e js cs) (Some op) (x ∷ extra) = bad 4
session (vector_line d is bs) (vector_line e js cs) (Some op) [] = asks op (operand d is bs) (operand e js cs)

abbrev pub session_of : List ℕ → Session
session_of s = session (first_vector s) (first_vector (rest s)) (first_name (rest (rest s))) (rest (rest (rest s)))
