-- A number that is spelled is read back, and has the digits that it should have. Assumes nothing.
use Prim.Native.Nat.{ℕ, zero, suc, ◌+◌, ◌-◌, ◌*◌, ◌/◌, ◌%◌, ◌^◌, ◌≤◌, ◌<◌}
use mathlib.Core.Bool.{Bool, true, false, not, ◌&&◌, cond, and-false}
use mathlib.Core.List.{List, [], ◌∷◌, ◌++◌}
use mathlib.Core.Path.{◌≡◌, refl}
use native.Mathlib.Nat.{pow-zero, pow-suc, mod-lt, mod-eq_of_lt, div-add-mod', div-lt_iff_lt-mul, lt_of_lt_of_le}
use native.Mathlib.Omega.{arith}
use lib.Dec.{leb, ltb}
use lib.ListN.{length, get_or, length-append, get_or-append}
use borrow.Author.Tests.{lt-ltb, le-ltb, le-leb, lt-leb, ltb-true, ltb-false, leb-true, ne_eqb}
use Rattle.places.proofs.Below.{and_true}
use Rattle.std.specs.Prelude.{Some}
use Rattle.finding.specs.Finding.{index_of}
use Rattle.lines.specs.Numerals.{digit_of, all_digits, value_from, decimal_of, bits_of}
use Rattle.texts.specs.Texts.{glyph, spelled, decimal, hex}
use Rattle.lines.proofs.Finding.{Lacks, lacks_append, lacks_one}

-- ---- digits

pub digit_glyph : (d : ℕ) → d < 16 → digit_of (glyph d) ≡ d
digit_glyph d h = go (ltb d 10) refl
  where
    go : (b : Bool) → ltb d 10 ≡ b → digit_of (cond b (48 + d) (87 + d)) ≡ d
    go true e =
        let l = ltb-true d 10 e in
        rw (le-leb 48 (48 + d) (omega arith), le-leb (48 + d) 57 (omega (arith, l))) (omega arith)
    go false e =
        let l = ltb-false d 10 e in
        rw (lt-leb (87 + d) 57 (omega arith), and-false (leb 48 (87 + d)), le-leb 97 (87 + d) (omega (arith, l)), le-leb (87 + d) 102 (omega arith))
        (omega arith)

pub glyph_digit : (c : ℕ) → digit_of c < 16 → glyph (digit_of c) ≡ c
glyph_digit c = go (leb 48 c) (leb c 57) refl refl
  where
    letter : (r t : Bool) → leb 97 c ≡ r → leb c 102 ≡ t → cond (r && t) (c - 87) 16 < 16 → glyph (cond (r && t) (c - 87) 16) ≡ c
    letter true true p q h =
        let l = leb-true 97 c p in
        rw (le-ltb (c - 87) 10 (omega (arith, l))) (omega (arith, l))
    letter true false p q h = absurd (omega arith)
    letter false t p q h = absurd (omega arith)

    go : (r t : Bool) → leb 48 c ≡ r → leb c 57 ≡ t → cond (r && t) (c - 48) (cond (leb 97 c && leb c 102) (c - 87) 16) < 16
        → glyph (cond (r && t) (c - 48) (cond (leb 97 c && leb c 102) (c - 87) 16)) ≡ c
    go true true p q h =
        let l = leb-true 48 c p in
        rw (lt-ltb (c - 48) 10 (omega (arith, l, leb-true c 57 q))) (omega (arith, l))
    go true false p q h = letter (leb 97 c) (leb c 102) refl refl h
    go false t p q h = letter (leb 97 c) (leb c 102) refl refl h

-- a byte that is no digit's is in no number
pub glyph_not : (b d : ℕ) → b < 48 → glyph d ≡ b → ⊥
glyph_not b d h = go (ltb d 10)
  where
    go : (t : Bool) → cond t (48 + d) (87 + d) ≡ b → ⊥
    go true e = omega arith
    go false e = omega arith

pub glyph_no_colon : (d : ℕ) → glyph d ≡ 58 → ⊥
glyph_no_colon d = go (ltb d 10) refl
  where
    go : (t : Bool) → ltb d 10 ≡ t → cond t (48 + d) (87 + d) ≡ 58 → ⊥
    go true p e = omega (arith, ltb-true d 10 p)
    go false p e = omega (arith, ltb-false d 10 p)

-- ---- texts of digits

pub value_append : (base n : ℕ) (s t : List ℕ) → value_from base n (s ++ t) ≡ value_from base (value_from base n s) t
unfolding value_from
value_append base n [] t = refl
value_append base n (c ∷ s) t = value_append base (n * base + digit_of c) s t

digits_append : (base : ℕ) (s t : List ℕ) → all_digits base s ≡ true → all_digits base t ≡ true → all_digits base (s ++ t) ≡ true
unfolding all_digits
digits_append base [] t h l = l
digits_append base (c ∷ s) t h l = go (ltb (digit_of c) base) (digits_append base s t) h
  where
    go : (b : Bool) → (all_digits base s ≡ true → all_digits base t ≡ true → all_digits base (s ++ t) ≡ true) → (b && all_digits base s) ≡ true
        → (b && all_digits base (s ++ t)) ≡ true
    go true f h = f h l
    go false f h = h

-- ---- numbers that are spelled

module _ (base : ℕ) (padded : Bool) (some : 0 < base) (few : base ≤ 16) where
  last : (n : ℕ) → digit_of (glyph (n % base)) ≡ n % base
  last n = digit_glyph (n % base) (lt_of_lt_of_le (mod-lt n some) few)

  pub value_spelled : (k n : ℕ) → n < base ^ k → value_from base 0 (spelled base padded k n) ≡ n
  unfolding spelled value_from
  value_spelled zero n h = omega (arith, pow-zero base)
  value_spelled (suc k) n h = go (ltb n base && not padded) refl (value_spelled k (n / base) (less h))
    where
      less : n < base ^ suc k → n / base < base ^ k
      less l = (div-lt_iff_lt-mul {y = base ^ k} some).1 (rw pow-suc at l)

      go : (b : Bool) → (ltb n base && not padded) ≡ b → value_from base 0 (spelled base padded k (n / base)) ≡ n / base
          → value_from base 0 (cond b [] (spelled base padded k (n / base)) ++ (glyph (n % base) ∷ [])) ≡ n
      go true e f =
          let l = ltb-true n base (and_true (ltb n base) (not padded) e).0 in
          rw (last n, mod-eq_of_lt l) (omega arith)
      go false e f = rw (value_append base 0 (spelled base padded k (n / base)) (glyph (n % base) ∷ []), f, last n) (div-add-mod' n base)

  pub digits_spelled : (k n : ℕ) → all_digits base (spelled base padded k n) ≡ true
  unfolding spelled all_digits
  digits_spelled zero n = refl
  digits_spelled (suc k) n =
      digits_append base (cond (ltb n base && not padded) [] (spelled base padded k (n / base))) (glyph (n % base) ∷ [])
      (go (ltb n base && not padded) (digits_spelled k (n / base))) one
    where
      one : all_digits base (glyph (n % base) ∷ []) ≡ true
      one = rw (last n, lt-ltb (n % base) base (mod-lt n some))

      go : (b : Bool) → all_digits base (spelled base padded k (n / base)) ≡ true
          → all_digits base (cond b [] (spelled base padded k (n / base))) ≡ true
      go true f = refl
      go false f = f

pub spelled_lacks : (b base : ℕ) (padded : Bool) → ((d : ℕ) → glyph d ≡ b → ⊥) → (k n : ℕ) → Lacks b (spelled base padded k n)
unfolding spelled index_of
spelled_lacks b base padded never zero n = refl
spelled_lacks b base padded never (suc k) n =
    lacks_append b (cond (ltb n base && not padded) [] (spelled base padded k (n / base))) (glyph (n % base) ∷ [])
    (go (ltb n base && not padded) (spelled_lacks b base padded never k (n / base))) (lacks_one b (glyph (n % base)) (never (n % base)))
  where
    go : (t : Bool) → Lacks b (spelled base padded k (n / base)) → Lacks b (cond t [] (spelled base padded k (n / base)))
    go true f = refl
    go false f = f

pub padded_length : (base k n : ℕ) → length (spelled base true k n) ≡ k
unfolding spelled
padded_length base zero n = refl
padded_length base (suc k) n =
    rw and-false
    (omega (arith, length-append (spelled base true k (n / base)) (glyph (n % base) ∷ []), padded_length base k (n / base)))

-- ---- decimals

some_byte : (s : List ℕ) → 48 < get_or s 0 0 → 0 < length s
some_byte [] h = absurd (omega arith)
some_byte (c ∷ s) h = omega arith

-- no leading zero
leading : (k n : ℕ) → 1 ≤ n → n < 10 ^ k → 48 < get_or (spelled 10 false k n) 0 0
unfolding spelled
leading zero n h l = absurd (omega (arith, pow-zero 10))
leading (suc k) n h l = go (ltb n 10) refl (leading k (n / 10))
  where
    go : (b : Bool) → ltb n 10 ≡ b → (1 ≤ n / 10 → n / 10 < 10 ^ k → 48 < get_or (spelled 10 false k (n / 10)) 0 0)
        → 48 < get_or (cond (b && true) [] (spelled 10 false k (n / 10)) ++ (glyph (n % 10) ∷ [])) 0 0
    go true e f =
        let m : n % 10 ≡ n = mod-eq_of_lt (ltb-true n 10 e) in
        rw (m, e) (omega arith)
    go false e f =
        let large = ltb-false n 10 e in
        let rec = f (omega (arith, large)) (omega (arith, l, pow-suc 10 k)) in
        rw (get_or-append (spelled 10 false k (n / 10)) (glyph (n % 10) ∷ []) 0 0 (some_byte (spelled 10 false k (n / 10)) rec)) rec

decimal_zero : decimal_of (decimal 0) ≡ Some 0
unfolding spelled all_digits value_from
decimal_zero = refl

pub read_decimal : (n : ℕ) → n < 4294967296 → decimal_of (decimal n) ≡ Some n
read_decimal zero h = decimal_zero
read_decimal (suc n) h =
    let first = leading 20 (suc n) (omega arith) (omega arith) in
    let s = decimal (suc n) in
    let some : 0 < length s = some_byte s first in
    let all = digits_spelled 10 false (omega arith) (omega arith) 20 (suc n) in
    let value = value_spelled 10 false (omega arith) (omega arith) 20 (suc n) (omega arith) in
    rw (ne_eqb (length s) 0 (omega arith), ne_eqb (get_or s 0 0) 48 (omega (arith, first)), all, value, le-leb (suc n) 4294967295 (omega arith))

pub read_hex : (n : ℕ) → n < 4294967296 → bits_of (hex n) ≡ Some n
read_hex n h =
    let all = digits_spelled 16 true (omega arith) (omega arith) 8 n in
    let value = value_spelled 16 true (omega arith) (omega arith) 8 n h in
    rw (padded_length 16 8 n, all, value, le-leb n 4294967295 (omega arith))
