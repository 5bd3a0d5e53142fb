-- What the parts of `session` promise to each other. A user's promises do not cite these.
use Rattle.std.specs.Prelude.{ℕ, ◌≤◌, List, length}
use Rattle.merges.specs.declared.Op.{Op}
use Rattle.texts.specs.Puts.{Puts}
use Rattle.entry_bits.specs.Operands.{Operand}
use Rattle.session.specs.Sessions.{asks}
use Rattle.session.specs.Answers.{text_of}

-- two operands of at most 128 entries each, and room for any line that they can give
pub record Fit (a b : Operand) (out : List ℕ) : Type 0 where
  pub few : length a.indexes ≤ 128
  pub few' : length b.indexes ≤ 128
  pub room : 8192 ≤ length out

-- the line for an operation on two operands was written to the front of a list
abbrev pub Tells : Op → Operand → Operand → List ℕ → ℕ → List ℕ → Type 0
Tells op a b out r out' = Puts (text_of (asks op a b)) 0 out r out'
