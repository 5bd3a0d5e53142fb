-- The pattern of q * 2 ^ k of the smallest floats, for a q of 24 digits or the next number up: k * 2 ^ 23 + q. Assumes nothing.
use Prim.Native.Nat.{ℕ, suc, ◌+◌, ◌-◌, ◌*◌, ◌/◌, ◌^◌, ◌≤◌, ◌<◌}
use native.Mathlib.Nat.{lt_of_le_of_lt, mul-div_cancel, mul-le-mul_right, eq-or-lt_of_le, pow-succ'}
use native.Mathlib.Omega.{arith}
use mathlib.Core.Bool.{false}
use mathlib.Core.Logic.{inl, inr}
use mathlib.Core.Path.{◌≡◌, sym, ap, ◌∙◌}
use lib.Pow.{pow_pos, pow-add, pow-lt}
use lib.Ieee.{Float, fin, binary32, size, units, to_bits, of_bits}
use lib.Ieee.Bits.{of_bits-to_bits}
use lib.Ieee.Exact.{HasValue, units_val}
use lib.Ieee.Fits.{odd-fits, down_pos}
use borrow.Author.Tests.{lt-ltb}
use Rattle.rounding.proofs.Digits.{size_is, size_shift}

-- the pattern of n of the smallest, as `to_bits` has it
abbrev pattern : ℕ → ℕ
pattern n = let k = size n - 24 in k * 8388608 + n / 2 ^ k

bits_of : (x : Float) (n : ℕ) → HasValue x false n (2 ^ 149) → to_bits binary32 x ≡ pattern n
unfolding to_bits
bits_of lib.Ieee.nan n v = elim v [ ]
bits_of (lib.Ieee.inf _) n v = elim v [ ]
bits_of (fin s m e) n v = rw (v.0, v.1, mul-div_cancel n (down_pos e)) (omega arith)

module _ (q k : ℕ) (least : 8388608 ≤ q) (most : q ≤ 16777216) where
  -- of 24 digits q is kept, and k are dropped
  pattern_is : pattern (q * 2 ^ k) ≡ k * 8388608 + q
  pattern_is = elim (eq-or-lt_of_le most) [ inl e ↦ rw e next | inr l ↦ full l ]
    where
      full : q < 16777216 → pattern (q * 2 ^ k) ≡ k * 8388608 + q
      full l =
          let s : size (q * 2 ^ k) - 24 ≡ k = omega (arith, size_shift q k (omega arith), size_is q 23 least l) in
          rw (s, mul-div_cancel q (pow_pos k))

      -- 2 ^ 24 has a digit more, and half of it is kept
      next : pattern (16777216 * 2 ^ k) ≡ k * 8388608 + 16777216
      next =
          let s : size (16777216 * 2 ^ k) - 24 ≡ suc k =
          omega (arith, size_shift 16777216 k (omega arith), size_is 16777216 24 (omega arith) (omega arith)) in
          let e : 16777216 * 2 ^ k ≡ 8388608 * 2 ^ suc k = rw (pow-succ' 2 k) (omega arith) in
          rw (s, e, mul-div_cancel 8388608 (pow_pos (suc k))) (omega arith)

  -- it is the pattern of each float of that size
  pub value_bits : (x : Float) → HasValue x false (q * 2 ^ k) (2 ^ 149) → to_bits binary32 x ≡ k * 8388608 + q
  value_bits x v = bits_of x (q * 2 ^ k) v ∙ pattern_is

  -- it is below the format's end
  under : k ≤ 252 → q * 2 ^ k < 2 ^ 277
  under h = lt_of_le_of_lt (rw (← pow-add 2 24 k) at (mul-le-mul_right (2 ^ k) most)) (pow-lt {i = 24 + k} {j = 277} (omega arith))

  -- so the float of that pattern is it
  pub made : k ≤ 252 → of_bits binary32 (k * 8388608 + q) ≡ units binary32 false q k
  unfolding units
  made h =
      let u = under h in
      sym (ap (of_bits binary32) (value_bits (units binary32 false q k) (units_val binary32 false q k u)))
      ∙ of_bits-to_bits binary32 (units binary32 false q k) (rw (lt-ltb (q * 2 ^ k) (2 ^ 277) u) (odd-fits binary32 25 false q k (omega arith) most u))
