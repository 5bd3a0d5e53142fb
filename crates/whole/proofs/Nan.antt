-- Where a quotient and a difference are no NaN: what was rounded is none, and a number less what is none is none. Assumes nothing.
use Prim.Native.Nat.{ℕ, zero, suc, ◌+◌, ◌-◌, ◌*◌, ◌^◌, ◌<◌}
use native.Mathlib.Omega.{arith}
use mathlib.Core.Bool.{Bool, true, false, not, cond, ◌&&◌, beq, true≢false}
use mathlib.Core.Path.{◌≡◌, refl}
use lib.Dec.{ltb}
use lib.IntN.{ℤ, nat_abs}
use lib.Ieee.{Float, nan, inf, fin, Format, prec, emax, low, up, down, odd, units, round, sum, add, sub, neg, div, is_nan}
use lib.Ieee.Fits.{round_is}
use Rattle.whole.specs.Whole.{Holds}
use Rattle.whole.proofs.Values.{shape, div_val}
use Rattle.whole.proofs.Holds.{holds_size}

units_number : (f : Format) (s : Bool) (q k : ℕ) → is_nan (units f s q k) ≡ false
unfolding units odd is_nan
units_number f s q k = go (ltb (q * 2 ^ k) (2 ^ (low f + suc (emax f)))) q
  where
    go : (b : Bool) (q : ℕ) → is_nan (cond b (odd (suc (prec f)) s q k (low f)) (inf s)) ≡ false
    go true zero = refl
    go true (suc q) = refl
    go false q = refl

round_number : (f : Format) (s : Bool) (a b : ℕ) → is_nan (round f s a b) ≡ false
round_number f s a b = rw (round_is f s a b) (units_number f s _ _)

sum_number : (f : Format) (s : Bool) (a : ℕ) (t : Bool) (b c : ℕ) → is_nan (sum f s a t b c) ≡ false
unfolding sum
sum_number f s a t b c = go (beq s t) (ltb a b)
  where
    go : (p q : Bool) → is_nan (cond p (round f s (a + b) c) (cond q (round f t (b - a) c) (round f (s && ltb b a) (a - b) c))) ≡ false
    go true q = round_number f s (a + b) c
    go false true = round_number f t (b - a) c
    go false false = round_number f (s && ltb b a) (a - b) c

-- a quotient of whole numbers, where the second is not 0
pub div_number : (f : Format) {x y : Float} {a b : ℤ} → Holds x a → Holds y b → 0 < nat_abs b → is_nan (div f x y) ≡ false
div_number f h k B = rw (div_val h k f (omega (arith, holds_size k))) (round_number f _ _ _)

-- a whole number less what is no NaN
pub sub_number : (f : Format) {x : Float} {a : ℤ} (y : Float) → Holds x a → is_nan y ≡ false → is_nan (sub f x y) ≡ false
unfolding sub add neg is_nan
sub_number f y h n = rw (shape h).2 (go h.sign (shape h).0 (shape h).1 y n)
  where
    go : (s : Bool) (m : ℕ) (e : ℤ) (y : Float) → is_nan y ≡ false → is_nan (add f (fin s m e) (neg y)) ≡ false
    go s m e nan n = absurd (true≢false n)
    go s m e (inf t) n = refl
    go s m e (fin t n d) _ = sum_number f s (m * up e * down d) (not t) (n * up d * down e) (down e * down d)
