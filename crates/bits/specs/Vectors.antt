-- A bit vector: its dims, and the words that hold its bits.
use Rattle.std.specs.Prelude.{ℕ, List}
use Rattle.bits.specs.declared.BVectBorrowed.{BVectBorrowed}

pub record BitVector : Type 0 where
  pub dims : ℕ
  pub words : List ℕ

abbrev pub bits : ℕ → List ℕ → BitVector
bits d ws = record { dims = d; words = ws }

-- a vector as a call is handed it
abbrev pub seen : BVectBorrowed → BitVector
seen v = bits v.dims v.data.now
