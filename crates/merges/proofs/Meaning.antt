-- What add, sub and mul write is a vector that passes its check, and holds at each place what the two places give. Assumes nothing.
use Rattle.std.proofs.Common.{ℕ, ◌*◌, ◌<◌, zero-mul, Bool, true, false, not, ◌&&◌, ◌||◌, ◌≡◌, refl, sym, ◌∙◌, eqb, Float}
use mathlib.Core.Bool.{beq}
use lib.Ieee.{nan, inf, fin, binary32, of_bits, add, sub, mul, eq, neg, level, up, down}
use Rattle.refusal.specs.Answers.{Valid}
use Rattle.sparse.specs.Cells.{is_zero}
use Rattle.sparse.specs.Vectors.{Vector, at}
use Rattle.sparse.specs.Calls.{checked_of}
use Rattle.sparse.specs.Sound.{Sound}
use Rattle.sparse.specs.declared.Cell.{Cell}
use Rattle.sparse.specs.declared.Cell.TheVariants.{Empty, Full}
use Rattle.sparse.proofs.Meaning.{keep_nonzero, at_below, vector_valid, at_nonzero}
use Rattle.merges.specs.Algebra.{joined, joins}
use Rattle.merges.specs.declared.Op.{Op}
use Rattle.merges.specs.declared.Op.TheVariants.{Add, Sub, Mul}
use Rattle.merges.proofs.Made.{join_at}

-- whether a number is zero does not turn on its sign
level_zero : (s : Bool) (a b : ℕ) → b ≡ 0 → level s a false b ≡ eqb a 0
level_zero s a b e = rw e (go s (eqb a 0))
  where
    go : (s t : Bool) → (t && (beq s false || t)) ≡ t
    go true true = refl
    go true false = refl
    go false true = refl
    go false false = refl

neg_nonzero : (v : Float) → is_zero v ≡ false → is_zero (neg v) ≡ false
unfolding neg eq of_bits
neg_nonzero nan h = refl
neg_nonzero (inf s) h = refl
neg_nonzero (fin s m e) h =
    let n = m * up e * 1 in
    let z : 0 * down e ≡ 0 = zero-mul (down e) in
    level_zero (not s) n (0 * down e) z ∙ sym (level_zero s n (0 * down e) z) ∙ h

-- a cell that holds no zero
abbrev Nonzero : Cell → Type 0
Nonzero x = (v : Float) → x ≡ Full v → is_zero v ≡ false

joined_nonzero : (op : Op) (x y : Cell) → Nonzero x → Nonzero y → Nonzero (joined op x y)
joined_nonzero Add Empty y hx hy v e = hy v e
joined_nonzero Add (Full a) Empty hx hy v e = hx v e
joined_nonzero Add (Full a) (Full b) hx hy v e = keep_nonzero (add binary32 a b) v e
joined_nonzero Sub Empty Empty hx hy v e = hy v e
joined_nonzero Sub Empty (Full b) hx hy v e = let q : neg b ≡ v = cc in rw (← q) (neg_nonzero b (hy b refl))
joined_nonzero Sub (Full a) Empty hx hy v e = hx v e
joined_nonzero Sub (Full a) (Full b) hx hy v e = keep_nonzero (sub binary32 a b) v e
joined_nonzero Mul Empty y hx hy v e = hx v e
joined_nonzero Mul (Full a) Empty hx hy v e = hy v e
joined_nonzero Mul (Full a) (Full b) hx hy v e = keep_nonzero (mul binary32 a b) v e

module _ (op : Op) (a b : Vector) where
  pub joins_at : (k : ℕ) → k < a.dims → at (joins op a b) k ≡ joined op (at a k) (at b k)
  joins_at k h = at_below (join_at op a b) a.dims k h

  pub joins_valid : Sound a → Sound b → checked_of (joins op a b) ≡ Valid
  joins_valid sa sb =
      vector_valid a.dims (join_at op a b) sa.low sa.high
      (λ k v l. joined_nonzero op (at a k) (at b k) (at_nonzero a sa k) (at_nonzero b sb k) v)
