-- Document 01, "The program": a vector as it was read, its values, and the bits to print for an entry.
use Rattle.std.specs.Prelude.{ℕ, ◌+◌, ◌-◌, Bool, cond, List, [], ◌∷◌, map, ltb, length, get_or, Float}
use Rattle.std.specs.Float.{binary32}
use Rattle.std.specs.Float.Ieee.{of_bits, to_bits}
use Rattle.finding.specs.Finding.{index_of}
use Rattle.sparse.specs.Vectors.{Vector, vector}
use Rattle.merges.specs.declared.Op.{Op}
use Rattle.merges.specs.declared.Op.TheVariants.{Add, Sub, Mul}
use Rattle.entry_bits.specs.declared.operand.OperandBorrowed.{OperandBorrowed}

-- a vector as it was read: the bits of its values, not the values
pub record Operand : Type 0 where
  pub dims : ℕ
  pub indexes : List ℕ
  pub bits : List ℕ

abbrev pub operand : ℕ → List ℕ → List ℕ → Operand
operand d is bs = record { dims = d; indexes = is; bits = bs }

-- an operand as it is lent
abbrev pub lent : OperandBorrowed → Operand
lent a = operand a.dims a.indexes.now a.bits.now

-- ---- values and their bits

-- the vector whose values have these bits
abbrev pub valued : Operand → Vector
valued a = vector a.dims a.indexes (map (of_bits binary32) a.bits)

-- an operand has an entry at the index k, and its bits
abbrev pub has : Operand → ℕ → Bool
has a k = ltb (index_of k a.indexes) (length a.indexes)

abbrev pub bits_at : Operand → ℕ → ℕ
bits_at a k = get_or a.bits (index_of k a.indexes) 0

-- "an entry only in b is negated": its sign bit is turned
abbrev pub turned : Op → ℕ → ℕ
turned Add b = b
turned Sub b = cond (ltb b 2147483648) (b + 2147483648) (b - 2147483648)
turned Mul b = b

-- the bits to print for the value v at the index k: "an index in one operand keeps that value", with the very bits that were read;
-- an index in both has those of what was computed, and a computed NaN's are 7fc00000
abbrev pub shown_at : Op → Operand → Operand → ℕ → Float → ℕ
shown_at op a b k v = cond (has a k) (cond (has b k) (to_bits binary32 v) (bits_at a k)) (turned op (bits_at b k))

unfoldable pub shown : Op → Operand → Operand → List ℕ → List Float → List ℕ
shown op a b [] vs = []
shown op a b (k ∷ ks) [] = []
shown op a b (k ∷ ks) (v ∷ vs) = shown_at op a b k v ∷ shown op a b ks vs
