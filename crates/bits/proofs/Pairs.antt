-- Two vectors that passed. Assumes nothing.
use Rattle.std.proofs.Common.{◌≡◌, refl, sym, ◌∙◌, arith}
use Rattle.refusal.specs.Answers.{Valid}
use Rattle.refusal.proofs.Chains.{next_valid, differ_valid}
use Rattle.bits.specs.Vectors.{BitVector, bits}
use Rattle.bits.specs.Calls.{checked_of, each_of, pair_of}
use Rattle.bits.specs.Words.{Alike}
use Rattle.bits.proofs.Checks.{Sound, sound}

-- two vectors of equal dims that passed
pub record Pair (a b : BitVector) : Type 0 where
  pub left : Sound a
  pub right : Sound (bits a.dims b.words)
  pub equal : a.dims ≡ b.dims

pub each_sound : (a b : BitVector) → each_of a b ≡ Valid → Sound a × Sound b
each_sound a b passed = let v = next_valid (checked_of a) (checked_of b) passed in (sound a v.0, sound b v.1)

pub pair_of_lem : {a b : BitVector} → Sound a × Sound b → a.dims ≡ b.dims → Pair a b
pair_of_lem {a} {b} s same =
    let e : bits a.dims b.words ≡ b = rw same in
    record { left = s.0; right = rw e s.1; equal = same }

pub pair_sound : (a b : BitVector) → pair_of a b ≡ Valid → Pair a b
pair_sound a b passed =
    let v = differ_valid (each_of a b) a.dims b.dims passed in
    pair_of_lem (each_sound a b v.0) v.1

-- a vector that passed, and itself
pub itself : (a : BitVector) → checked_of a ≡ Valid → Pair a a
itself a passed = record { left = sound a passed; right = sound a passed; equal = refl }

pub alike : {a b : BitVector} → Pair a b → Alike a.words b.words
alike p = record { long = p.right.long ∙ sym p.left.long; most = omega (arith, p.left.high, p.left.long) }
