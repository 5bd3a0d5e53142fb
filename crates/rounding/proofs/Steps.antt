-- A finite float is so many of the smallest, 2 ^ -149: how far that is from a whole number, and that it is m * 2 ^ i of them for an m of at
-- most 24 digits, or the next number up. Assumes nothing.
use Prim.Native.Nat.{ℕ, ◌+◌, ◌-◌, ◌*◌, ◌/◌, ◌^◌, ◌≤◌, ◌<◌}
use native.Mathlib.Decide.{dec_le}
use native.Mathlib.Nat.{le_trans, mul-div_cancel, div-div-eq-div-mul}
use native.Mathlib.Omega.{arith}
use mathlib.Core.Bool.{Bool, true, false, cond}
use mathlib.Core.Path.{◌≡◌, sym, ap, ◌∙◌, subst}
use lib.Dec.{T, ltb}
use lib.IntN.{pos, nat_abs, ◌-ℤ◌, neg_ℤ-+ℤ}
use lib.Ieee.{Float, inf, fin, binary32, up, down, size, odd, units, fits}
use lib.Ieee.Exact.{HasValue, odd_sign}
use lib.Ieee.Fits.{round_is, kept-lt, down_pos}
use lib.Ieee.Nearest.{closest}
use lib.Ieee.Scale.{finite}
use Rattle.whole.specs.Whole.{signed}
use Rattle.whole.proofs.Sizes.{size_neg, signed_less, signed_more}
use Rattle.whole.proofs.Zero.{round_own}
use Rattle.rounding.specs.Nearest.{steps, away}
use Rattle.rounding.proofs.Multiples.{apart, closest_le}

-- a float that is v of the smallest
steps_value : (x : Float) (s : Bool) (v : ℕ) → HasValue x s v (2 ^ 149) → steps x ≡ signed s v
steps_value lib.Ieee.nan s v h = elim h [ ]
steps_value (inf _) s v h = elim h [ ]
steps_value (fin t m e) s v h = rw (h.0, h.1, mul-div_cancel v (down_pos e))

-- how far it is from w of them
abbrev pub far : Bool → ℕ → ℕ → ℕ
far false v w = apart v w
far true v w = v + w

far_is : (s : Bool) (v w : ℕ) → nat_abs (signed s v -ℤ pos w) ≡ far s v w
far_is true v w = ap nat_abs (sym (neg_ℤ-+ℤ (pos v) (pos w))) ∙ size_neg (pos (v + w))
far_is false v w =
    elim (dec_le w v) [ yes l ↦ rw (← signed_less v w l) (omega arith) | no l ↦ rw (← signed_more v w (omega arith), size_neg) (omega arith) ]

pub away_is : (n : ℕ) (x : Float) (s : Bool) (v : ℕ) → HasValue x s v (2 ^ 149) → away n x ≡ far s v (n * 2 ^ 149)
away_is n x s v h = rw (steps_value x s v h) (far_is s v (n * 2 ^ 149))

-- a finite float is m * 2 ^ i of the smallest
pub record Counted (y : Float) : Type 0 where
  pub sign : Bool
  pub m : ℕ
  pub i : ℕ
  pub few : m ≤ 2 ^ 24
  pub value : HasValue y sign (m * 2 ^ i) (2 ^ 149)

pub counted : (y : Float) → T (fits binary32 y) → T (finite y) → Counted y
unfolding units
counted lib.Ieee.nan t p = elim p [ ]
counted (inf _) t p = elim p [ ]
counted (fin s m e) t p =
    let n = m * up e * 2 ^ 149 in
    let k = size (n / down e) - 24 in
    let u = down e * 2 ^ k in
    let lost : n / down e / 2 ^ k < 2 ^ 24 = kept-lt 24 (n / down e) in
    record {
      sign = s;
      m = closest n u;
      i = k;
      few = le_trans (closest_le n u) (rw div-div-eq-div-mul at lost);
      value = go (closest n u) k (ltb (closest n u * 2 ^ k) (2 ^ 277)) (sym (round_own binary32 s m e t) ∙ round_is binary32 s (m * up e) (down e));
    }
  where
    go : (q k : ℕ) (b : Bool) → fin s m e ≡ cond b (odd 25 s q k 149) (inf s) → HasValue (fin s m e) s (q * 2 ^ k) (2 ^ 149)
    go q k true h = subst (λ (x : Float). HasValue x s (q * 2 ^ k) (2 ^ 149)) (sym h) (odd_sign 25 s q k 149)
    go q k false h = absurd cc

pub counted_away : (n : ℕ) (y : Float) (c : Counted y) → away n y ≡ far c.sign (c.m * 2 ^ c.i) (n * 2 ^ 149)
counted_away n y c = away_is n y c.sign (c.m * 2 ^ c.i) c.value
