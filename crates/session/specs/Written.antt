-- Document 01, "The program": the lines of a session as they are written. "two lines `v dims index:bits ...` (decimal, eight lower-case hex
-- digits, single spaces) and one line `add`, `sub` or `mul`."
use Rattle.std.specs.Prelude.{ℕ, ◌≤◌, ◌<◌, List, [], ◌∷◌, ◌++◌, ◌≡◌, length, get_or}
use Rattle.merges.specs.declared.Op.{Op}
use Rattle.merges.specs.declared.Op.TheVariants.{Add, Sub, Mul}
use Rattle.texts.specs.Texts.{vector_text, newline}
use Rattle.entry_bits.specs.Operands.{Operand}

-- `v dims index:bits ...` with its newline
abbrev pub written : Operand → List ℕ
written a = (118 ∷ 32 ∷ []) ++ vector_text a.dims a.indexes a.bits

-- `add`, `sub` or `mul` with its newline
abbrev pub named : Op → List ℕ
named Add = (97 ∷ 100 ∷ 100 ∷ []) ++ newline
named Sub = (115 ∷ 117 ∷ 98 ∷ []) ++ newline
named Mul = (109 ∷ 117 ∷ 108 ∷ []) ++ newline

-- an operand that has a line: its numbers "fit u32" or have eight digits, and the line has "at most 4,096 bytes with" its newline, "a vector
-- at most 128 entries"
pub record Writable (a : Operand) : Type 0 where
  pub dims_fit : a.dims < 4294967296
  pub indexes_fit : (k : ℕ) → get_or a.indexes k 0 < 4294967296
  pub bits_fit : (k : ℕ) → get_or a.bits k 0 < 4294967296
  pub even : length a.bits ≡ length a.indexes
  pub few : length a.indexes ≤ 128
  pub short : length (written a) ≤ 4096
