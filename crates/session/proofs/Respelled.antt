-- A text that is read as a number is how that number is spelled: no other text is read as it. Assumes nothing.
use Prim.Native.Nat.{ℕ, suc, ◌+◌, ◌-◌, ◌*◌, ◌/◌, ◌%◌, ◌^◌, ◌≤◌, ◌<◌}
use mathlib.Core.Bool.{Bool, true, false, not, ◌&&◌, cond, and-false}
use mathlib.Core.List.{List, [], ◌∷◌, ◌++◌, append_assoc, append-nil}
use mathlib.Core.Logic.{◌⊎◌, inl, inr, ⊎_map, ⊎_elim}
use mathlib.Core.Path.{◌≡◌, refl, sym, ap, ◌∙◌}
use native.Mathlib.Nat.{pow-zero, pow-suc, pow-le-pow_right, mul-le-mul, mul-add-div_right, mul-add-mod_self_right}
use native.Mathlib.Nat.{mod-eq_of_lt, div-eq_of_lt, lt_of_lt_of_le}
use native.Mathlib.Omega.{arith}
use lib.Dec.{leb, ltb, eqb}
use lib.ListN.{length}
use borrow.Author.Tests.{lt-ltb, ltb-true, leb-true, eqb-true, eqb-false, ne_eqb}
use Rattle.places.proofs.Below.{and_true, le_or_lt}
use Rattle.std.specs.Prelude.{Some, None}
use Rattle.lines.specs.Numerals.{digit_of, all_digits, value_from, numeral_of, decimal_of, bits_of}
use Rattle.texts.specs.Texts.{glyph, spelled, decimal, hex}
use Rattle.texts.proofs.Spelling.{spelled_one, spelled_more}
use Rattle.session.proofs.Digits.{glyph_digit}

module _ (base : ℕ) (padded : Bool) (some : 0 < base) (few : base ≤ 16) where
  one_more : (k n c : ℕ) → (not padded ≡ false) ⊎ (1 ≤ n) → digit_of c < base
      → spelled base padded (suc k) (n * base + digit_of c) ≡ spelled base padded k n ++ (c ∷ [])
  one_more k n c e d =
      let front : suc k - 1 ≡ k = omega arith in
      let quotient : (n * base + digit_of c) / base ≡ n = mul-add-div_right some n (digit_of c) ∙ rw (div-eq_of_lt d) (omega arith) in
      let last : (n * base + digit_of c) % base ≡ digit_of c = mul-add-mod_self_right n base (digit_of c) ∙ mod-eq_of_lt d in
      spelled_more base padded (n * base + digit_of c) (suc k) (omega arith) (⊎_map (λ h. h) large e)
      ∙ rw (front, quotient, last, glyph_digit c (lt_of_lt_of_le d few))
    where
      large : 1 ≤ n → base ≤ n * base + digit_of c
      large h = let m : 1 * base ≤ n * base = mul-le-mul h (omega arith) in omega arith

  pub spelled_on : (s : List ℕ) (k n : ℕ) → (not padded ≡ false) ⊎ (1 ≤ n) → all_digits base s ≡ true
      → spelled base padded (length s + k) (value_from base n s) ≡ spelled base padded k n ++ s
  unfolding all_digits value_from
  spelled_on [] k n e all =
      let none : 0 + k ≡ k = omega arith in
      rw (none, append-nil (spelled base padded k n))
  spelled_on (c ∷ s) k n e all =
      let both = and_true (ltb (digit_of c) base) (all_digits base s) all in
      let d = ltb-true (digit_of c) base both.0 in
      let count : suc (length s) + k ≡ length s + suc k = omega arith in
      rw count (spelled_on s (suc k) (n * base + digit_of c) (⊎_map (λ h. h) more e) both.1)
      ∙ ap (λ (t : List ℕ). t ++ s) (one_more k n c e d)
      ∙ append_assoc (spelled base padded k n) (c ∷ []) s
    where
      more : 1 ≤ n → 1 ≤ n * base + digit_of c
      more h = omega (arith, mul-le-mul h some)

-- ---- what a number says of its text

read_as : (base : ℕ) (s : List ℕ) (n : ℕ) → numeral_of base s ≡ Some n → (all_digits base s ≡ true) × (value_from base 0 s ≡ n) × (n ≤ 4294967295)
read_as base s n = go (all_digits base s && leb (value_from base 0 s) 4294967295) refl
  where
    go : (b : Bool) → (all_digits base s && leb (value_from base 0 s) 4294967295) ≡ b → cond b (Some (value_from base 0 s)) None ≡ Some n
        → (all_digits base s ≡ true) × (value_from base 0 s ≡ n) × (n ≤ 4294967295)
    go true h e =
        let both = and_true (all_digits base s) (leb (value_from base 0 s) 4294967295) h in
        let v : value_from base 0 s ≡ n = cc in
        (both.0, v, omega (arith, leb-true (value_from base 0 s) 4294967295 both.1))
    go false h e = absurd cc

pub hex_only : (s : List ℕ) (n : ℕ) → bits_of s ≡ Some n → s ≡ hex n
unfolding spelled
hex_only s n = go (eqb (length s) 8) refl
  where
    go : (b : Bool) → eqb (length s) 8 ≡ b → cond b (numeral_of 16 s) None ≡ Some n → s ≡ hex n
    go true h e =
        let r = read_as 16 s n e in
        let eight : length s + 0 ≡ 8 = omega (arith, eqb-true (length s) 8 h) in
        sym (rw (eight, r.1) at (spelled_on 16 true (omega arith) (omega arith) s 0 0 (inl refl) r.0))
    go false h e = absurd cc

-- a number with a digit in front is large
big : (j n : ℕ) (s : List ℕ) → 10 ^ j ≤ n → 10 ^ (j + length s) ≤ value_from 10 n s
unfolding value_from
big j n [] h =
    let none : j + 0 ≡ j = omega arith in
    rw none h
big j n (c ∷ s) h =
    let count : j + suc (length s) ≡ suc j + length s = omega arith in
    rw count (big (suc j) (n * 10 + digit_of c) s (omega (arith, pow-suc 10 j)))

short : (d n : ℕ) (s : List ℕ) → 1 ≤ d → value_from 10 d s ≡ n → n ≤ 4294967295 → length s ≤ 19
short d n s h e l = ⊎_elim (λ a. a) (λ a. absurd (far a)) (le_or_lt (length s) 19)
  where
    far : 19 < length s → ⊥
    far a =
        let most : 10 ^ 20 ≤ 10 ^ (0 + length s) = pow-le-pow_right (omega arith) {i = 20} {j = 0 + length s} (omega arith) in
        omega (arith, most, big 0 d s (omega (arith, pow-zero 10)))

one_digit : (c n : ℕ) → numeral_of 10 (c ∷ []) ≡ Some n → c ∷ [] ≡ decimal n
unfolding all_digits value_from
one_digit c n e =
    let r = read_as 10 (c ∷ []) n e in
    let d = ltb-true (digit_of c) 10 (and_true (ltb (digit_of c) 10) true r.0).0 in
    let v : n ≡ digit_of c = omega (arith, r.1) in
    rw (v, spelled_one 10 false (digit_of c) 20 (omega arith) d refl, mod-eq_of_lt d, glyph_digit c (omega arith))

more_digits : (c : ℕ) (s : List ℕ) (n : ℕ) → (c ≡ 48 → ⊥) → numeral_of 10 (c ∷ s) ≡ Some n → c ∷ s ≡ decimal n
unfolding all_digits value_from
more_digits c s n no_zero e =
    let r = read_as 10 (c ∷ s) n e in
    let both = and_true (ltb (digit_of c) 10) (all_digits 10 s) r.0 in
    let d = ltb-true (digit_of c) 10 both.0 in
    let back = glyph_digit c (omega arith) in
    let zero : digit_of c ≡ 0 → ⊥ = λ h. no_zero (sym back ∙ ap glyph h) in
    let some : 1 ≤ digit_of c = omega arith in
    let alone : digit_of c ≡ 0 * 10 + digit_of c = omega arith in
    let value : value_from 10 (digit_of c) s ≡ n = ap (λ (m : ℕ). value_from 10 m s) alone ∙ r.1 in
    let few = short (digit_of c) n s some value r.2 in
    let all : length s + (20 - length s) ≡ 20 = omega (arith, few) in
    let on = spelled_on 10 false (omega arith) (omega arith) s (20 - length s) (digit_of c) (inr some) both.1 in
    let first = spelled_one 10 false (digit_of c) (20 - length s) (omega (arith, few)) d refl in
    sym (rw (all, value, first, mod-eq_of_lt d, back) at on)

pub decimal_only : (s : List ℕ) (n : ℕ) → decimal_of s ≡ Some n → s ≡ decimal n
decimal_only [] n e = absurd cc
decimal_only (c ∷ []) n e = one_digit c n (rw and-false at e)
decimal_only (c ∷ b ∷ s) n e = go (eqb c 48) refl (rw (ne_eqb (length (c ∷ b ∷ s)) 0 (omega arith)) at e)
  where
    go : (t : Bool) → eqb c 48 ≡ t → cond (t && ltb 1 (suc (suc (length s)))) None (numeral_of 10 (c ∷ b ∷ s)) ≡ Some n → c ∷ b ∷ s ≡ decimal n
    go true h e =
        let bad : None ≡ Some n = rw (lt-ltb 1 (suc (suc (length s))) (omega arith)) at e in
        absurd cc
    go false h e = more_digits c (b ∷ s) n (eqb-false c 48 h) e
