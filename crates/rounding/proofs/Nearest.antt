-- The float of a whole number below 2 ^ 64 is the nearest, ties go to the even one, and it is a whole number again. Assumes nothing.
use Prim.Native.Nat.{ℕ, ◌+◌, ◌-◌, ◌*◌, ◌/◌, ◌%◌, ◌^◌, ◌≤◌, ◌<◌}
use native.Mathlib.Decide.{dec_le}
use native.Mathlib.Nat.{le_trans, lt_of_lt_of_le, lt_of_le_of_lt, eq-or-lt_of_le, eq-zero-or-pos, le-div_iff_mul-le, div-one, mod-one}
use native.Mathlib.Nat.{mul-pos, mul-le-mul_right, mul_assoc, mul-one, one-mul, mul_right_comm, eq_of_mul-eq-mul_right}
use native.Mathlib.Omega.{arith}
use mathlib.Core.Bool.{Bool, true, false}
use mathlib.Core.Logic.{◌⊎◌, inl, inr}
use mathlib.Core.Path.{◌≡◌, refl, sym, ◌∙◌}
use lib.Dec.{T}
use lib.IntN.{pos}
use lib.Pow.{pow_pos, pow-add, pow_mono, pow-lt, shl_lt, shr_lt}
use lib.Ieee.{Float, fin, binary32, up, down, size, fits, of_int, to_bits}
use lib.Ieee.Digits.{size-lt, size-le, size_reaches, back}
use lib.Ieee.Exact.{HasValue, units_val}
use lib.Ieee.Fits.{of_int-fits}
use lib.Ieee.Nearest.{closest}
use lib.Ieee.Scale.{finite}
use Rattle.whole.specs.Whole.{Holds}
use Rattle.whole.proofs.Holds.{of_int_val}
use Rattle.whole.proofs.Numbers.{of_int_zero}
use Rattle.whole.proofs.Zero.{one_of_value}
use Rattle.rounding.specs.Nearest.{away, Nearest, rounded}
use Rattle.rounding.proofs.Digits.{above, size_shift, dropped, kept, closest_shift, reach, kept_least, kept_most, of_kept}
use Rattle.rounding.proofs.Patterns.{value_bits}
use Rattle.rounding.proofs.Multiples.{closest_ge, closest_le, apart, Beside, farther, same, even, no_nearer, beside_multiple}
use Rattle.rounding.proofs.Steps.{far, away_is, Counted, counted, counted_away}

-- ---- what a number comes to

-- a number but 0 does not come to 0
pub rounded_some : (n : ℕ) → 0 < n → 0 < rounded n
rounded_some n h =
    let d = dropped n in
    let some : 1 ≤ n / 2 ^ d = (le-div_iff_mul-le (pow_pos d)).1 (rw (one-mul (2 ^ d)) (size_reaches n d (omega (arith, above n 0 h)))) in
    mul-pos (le_trans some (closest_ge n (2 ^ d))) (pow_pos d)

-- a number below a power of two comes to that power at most
rounded_le : (n j : ℕ) → n < 2 ^ j → rounded n ≤ 2 ^ j
rounded_le n j h =
    let d = dropped n in
    let b : j - d + d ≡ j = back j d (omega (arith, size-le n j h)) in
    let q : n / 2 ^ d < 2 ^ (j - d) = shr_lt (j - d) d (rw b h) in
    rw (← pow-add 2 (j - d) d, b) at (mul-le-mul_right (2 ^ d) (le_trans (closest_le n (2 ^ d)) q))

pub rounded_most : (n : ℕ) → n < 2 ^ 64 → rounded n ≤ 2 ^ 64
rounded_most n h = rounded_le n 64 h

-- a number of 24 digits at most stays as it is
rounded_own : (n : ℕ) → size n ≤ 24 → rounded n ≡ n
rounded_own n h = let d : dropped n ≡ 0 = omega arith in rw (d, div-one, mod-one) (mul-one n)

-- of a longer one t zeros more are dropped
rounded_shift : (n t : ℕ) → 24 < size n → rounded (n * 2 ^ t) ≡ rounded n * 2 ^ t
rounded_shift n t h =
    let d : dropped (n * 2 ^ t) ≡ dropped n + t = omega (arith, size_shift n t (size_reaches n 0 (omega arith))) in
    let q : closest (n * 2 ^ t) (2 ^ (dropped n + t)) ≡ kept n = closest_shift n t (dropped n + t) 0 (dropped n) (omega arith) ∙ rw (mul-one n) in
    rw (d, q, pow-add 2 (dropped n) t) (sym (mul_assoc (kept n) (2 ^ dropped n) (2 ^ t)))

-- m * 2 ^ i with an m of 24 digits, or the next number up, is beside what n comes to
rounded_beside : (n m i : ℕ) → m ≤ 2 ^ 24 → Beside n (kept n) (rounded n) (m * 2 ^ i)
rounded_beside n m i h =
    let d = dropped n in
    elim (dec_le d i) [
      | yes l ↦
          let e : m * 2 ^ (i - d) * 2 ^ d ≡ m * 2 ^ i = rw (mul_assoc m (2 ^ (i - d)) (2 ^ d), ← pow-add 2 (i - d) d, back i d l) in
          rw e at (beside_multiple n (2 ^ d) (pow_pos d) (m * 2 ^ (i - d)))
      | no l ↦
          let b : Beside n (kept n) (rounded n) (2 ^ 23 * 2 ^ d) = beside_multiple n (2 ^ d) (pow_pos d) (2 ^ 23) in
          let p : 2 ^ (24 + i) ≤ 2 ^ (23 + d) = pow_mono (omega arith) in
          let most : m * 2 ^ i ≤ 2 ^ 23 * 2 ^ d = le_trans (mul-le-mul_right (2 ^ i) h) (rw (pow-add 2 24 i, pow-add 2 23 d) at p) in
          elim (eq-or-lt_of_le most) [ inl e ↦ rw e b | inr g ↦ farther (omega (arith, no_nearer b, reach n (omega arith))) ]
    ]

-- none is nearer to w than what w comes to
none_nearer : (w : ℕ) (s : Bool) (m i : ℕ) → m ≤ 2 ^ 24 → apart (rounded w) w ≤ far s (m * 2 ^ i) w
none_nearer w false m i h = no_nearer (rounded_beside w m i h)
none_nearer w true m i h = omega (arith, no_nearer (rounded_beside w 0 0 (omega arith)))

-- and only where the even number is kept is another as near
only_even : (w : ℕ) (s : Bool) (m i : ℕ) → m ≤ 2 ^ 24 → 0 < w → far s (m * 2 ^ i) w ≡ apart (rounded w) w
    → ((s ≡ false) × (m * 2 ^ i ≡ rounded w)) ⊎ (kept w % 2 ≡ 0)
only_even w false m i h W e =
    elim (rounded_beside w m i h) [ farther g ↦ absurd (omega arith) | same g ↦ inl (refl, g) | even g d ↦ inr d ]
only_even w true m i h W e =
    elim (rounded_beside w 0 0 (omega arith)) [
      | farther g ↦ absurd (omega arith)
      | same g ↦ absurd (omega (arith, rounded_some w W))
      | even g d ↦ inr d
    ]

-- ---- the float of n

module _ (n : ℕ) (l : n < 2 ^ 64) where
  abbrev x : Float
  x = of_int binary32 (pos n)

  abbrev w : ℕ
  w = n * 2 ^ 149

  -- it is what n * 2 ^ 149 of the smallest come to
  value : HasValue x false (rounded w) (2 ^ 149)
  value =
      rw (of_kept n)
      (units_val binary32 false (kept w) (dropped w)
      (lt_of_le_of_lt (rounded_le w 213 (shl_lt 64 149 l)) (pow-lt {i = 213} {j = 277} (omega arith))))

  own : away n x ≡ apart (rounded w) w
  own = away_is n x false (rounded w) value

  -- the last digit of the pattern is that of the number kept
  even_bits : 0 < n → kept w % 2 ≡ 0 → to_bits binary32 x % 2 ≡ 0
  even_bits some e =
      let long : 24 ≤ size w = omega (arith, size_shift n 149 some) in
      rw (value_bits (kept w) (dropped w) (kept_least w long) (kept_most w) x value) (omega arith)

  -- so where another float is as near, its last digit is even
  tie : (y : Float) → T (fits binary32 y) → Counted y → 0 < n → away n y ≡ away n x → (y ≡ x) ⊎ (to_bits binary32 x % 2 ≡ 0)
  tie y t c some h =
      elim (only_even w c.sign c.m c.i c.few (mul-pos some (pow_pos 149)) (sym (counted_away n y c) ∙ h ∙ own)) [
        | inl e ↦
            let v : HasValue y false (rounded w) (2 ^ 149) = rw (e.0, e.1) at c.value in
            inl (one_of_value binary32 y x false (rounded w) (2 ^ 149) (pow_pos 149) t (of_int-fits binary32 (pos n)) v value)
        | inr e ↦ inr (even_bits some e)
      ]

-- ---- the laws

is_number : (x : Float) (v : ℕ) → HasValue x false v (2 ^ 149) → T (finite x)
is_number lib.Ieee.nan v h = elim h [ ]
is_number (lib.Ieee.inf _) v h = elim h [ ]
is_number (fin s m e) v h = tt

zero_bits : to_bits binary32 (fin false 0 (pos 0)) % 2 ≡ 0
unfolding to_bits
zero_bits = refl

-- what is r * 2 ^ 149 of the smallest is r
whole : (x : Float) (r : ℕ) → HasValue x false (r * 2 ^ 149) (2 ^ 149) → HasValue x false r 1
whole lib.Ieee.nan r h = elim h [ ]
whole (lib.Ieee.inf _) r h = elim h [ ]
whole (fin s m e) r h = (
  h.0,
  eq_of_mul-eq-mul_right (2 ^ 149) (pow_pos 149) (m * up e * 1) (r * down e) (rw mul-one (h.1 ∙ mul_right_comm r (2 ^ 149) (down e))),
)

-- request #109: the count is rounded to the nearest f32, ties to even
pub of_nearest : (n : ℕ) → n < 2 ^ 64 → Nearest n (of_int binary32 (pos n))
of_nearest n l = record {
  is_finite = is_number (of_int binary32 (pos n)) (rounded (n * 2 ^ 149)) (value n l);
  none_nearer = λ y t p.
      let c = counted y t p in
      rw (own n l, counted_away n y c) (none_nearer (n * 2 ^ 149) c.sign c.m c.i c.few);
  even = λ y t p e.
      elim (eq-zero-or-pos n) [ inl z ↦ inr (rw (z, of_int_zero binary32) zero_bits) | inr some ↦ tie n l y t (counted y t p) some e ];
}

-- and it is a whole number
pub of_holds : (n : ℕ) → n < 2 ^ 64 → Holds (of_int binary32 (pos n)) (pos (rounded n))
of_holds n l = record {
  sign = false;
  size = rounded n;
  value = elim (dec_le (size n) 24) [ yes h ↦ short h | no h ↦ whole x (rounded n) (rw (rounded_shift n 149 (omega arith)) at (value n l)) ];
  is = refl;
}
  where
    x : Float
    x = of_int binary32 (pos n)

    short : size n ≤ 24 → HasValue x false (rounded n) 1
    short h = rw (rounded_own n h) (of_int_val binary32 (pos n) (omega (arith, lt_of_lt_of_le (size-lt n) (pow_mono h))))
