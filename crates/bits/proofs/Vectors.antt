-- The bits of a list of words, and what a check has found. Assumes nothing.
use Rattle.std.proofs.Common.{◌≡◌, ℕ, ◌+◌, ◌-◌, ◌*◌, ◌/◌, ◌%◌, ◌^◌, ◌≤◌, ◌<◌, false, ◌&&◌, List, length, get_or, leb, eqb, ◌⊎◌, inl, inr, ⊎_elim, refl, sym, ap, ◌∙◌, arith, lt_of_lt_of_le, one-mul, div-lt_iff_lt-mul, pow_mono, pow_pos, shr-shr, le-leb}
use Rattle.std.proofs.Math.ListN.{get_or-eq_default}
use Rattle.std.proofs.lemmas.Bool.{lt-leb}
use mathlib.Core.Bool.{and-false}
use Rattle.std.proofs.lemmas.Nat.{shr_le}
use Rattle.places.proofs.Below.{any_false, any_none, le_or_lt}
use Rattle.bits.specs.Bits.{bit_of, bit_at, words_for}
use Rattle.bits.specs.Calls.{padded}
use Rattle.bits.proofs.Bits.{bit_above, bit_none, word_is, word_clear}

-- ---- a place is a word and a bit of it

pub bit_at_lem : (ws : List ℕ) (j k : ℕ) → k < 64 → bit_at ws (64 * j + k) ≡ bit_of (get_or ws j 0) k
unfolding bit_at
bit_at_lem ws j k h =
    let q : (64 * j + k) / 64 ≡ j = omega arith in
    let r : (64 * j + k) % 64 ≡ k = omega arith in
    rw (q, r)

-- past the words there is no bit
pub bit_past : (ws : List ℕ) (i : ℕ) → 64 * length ws ≤ i → bit_at ws i ≡ false
unfolding bit_at
bit_past ws i h = rw (get_or-eq_default ws 0 {n = i / 64} (omega arith)) (bit_none (i % 64))

-- ---- the padding

-- a number below 2 ^ 64 without bits is 0
no_bits : (w : ℕ) → w < 2 ^ 64 → ((k : ℕ) → k < 64 → bit_of w k ≡ false) → w ≡ 0
no_bits w h none = word_is (λ i. false) 64 0 w h none ∙ word_clear (λ i. false) 0 64 (λ k l. refl)

bit_shr : (w r k : ℕ) → bit_of (w / 2 ^ r) k ≡ bit_of w (r + k)
unfolding bit_of
bit_shr w r k = ap (λ (n : ℕ). eqb (n % 2) 1) (shr-shr w r k)

-- what is above the first r bits is 0 exactly where no bit from r on is set
high_clear : (w r k : ℕ) → w / 2 ^ r ≡ 0 → r ≤ k → bit_of w k ≡ false
high_clear w r k e h =
    let small : w < 1 * 2 ^ r = (div-lt_iff_lt-mul (pow_pos r)).0 (omega arith) in
    bit_above w k (lt_of_lt_of_le (rw one-mul at small) (pow_mono h))

high_none : (w r : ℕ) → w < 2 ^ 64 → ((k : ℕ) → r ≤ k → k < 64 → bit_of w k ≡ false) → w / 2 ^ r ≡ 0
high_none w r h none =
    no_bits (w / 2 ^ r) (omega (arith, shr_le w r))
    (λ k l.
    bit_shr w r k
    ∙ ⊎_elim
    (λ past. bit_above w (r + k) (lt_of_lt_of_le h (pow_mono past)))
    (λ inside. none (r + k) (omega arith) inside)
    (le_or_lt 64 (r + k)))

-- bits at and above d
pub record Clear (d : ℕ) (ws : List ℕ) : Type 0 where
  pub clear : (i : ℕ) → d ≤ i → bit_at ws i ≡ false

pub clear_padded : (d : ℕ) (ws : List ℕ) → Clear d ws → padded d ws ≡ false
unfolding padded
clear_padded d ws h = any_none (λ i. leb d i && bit_at ws i) (64 * length ws) (λ i l. go i (le_or_lt d i))
  where
    go : (i : ℕ) → (d ≤ i) ⊎ (i < d) → (leb d i && bit_at ws i) ≡ false
    go i (inl above) = rw (h.clear i above, and-false)
    go i (inr below) = rw (lt-leb d i below)

pub padded_clear : (d : ℕ) (ws : List ℕ) → padded d ws ≡ false → Clear d ws
unfolding padded
padded_clear d ws e =
    record {
      clear = λ i above.
          ⊎_elim
          (bit_past ws i)
          (λ inside. go i above (any_false (λ j. leb d j && bit_at ws j) (64 * length ws) i e inside))
          (le_or_lt (64 * length ws) i);
    }
  where
    go : (i : ℕ) → d ≤ i → (leb d i && bit_at ws i) ≡ false → bit_at ws i ≡ false
    go i above q = rw (le-leb d i above) at q

-- ---- the last word tells whether a padding bit is set
module _ (d : ℕ) (ws : List ℕ) (pos : 1 ≤ d) (long : length ws ≡ words_for d) where
  pub last_clear : (0 < d % 64 → get_or ws (length ws - 1) 0 / 2 ^ (d % 64) ≡ 0) → Clear d ws
  unfolding bit_at
  last_clear e = record { clear = λ i above. ⊎_elim (bit_past ws i) (λ inside. go i above inside) (le_or_lt (64 * length ws) i) }
    where
      go : (i : ℕ) → d ≤ i → i < 64 * length ws → bit_at ws i ≡ false
      go i above inside =
          let q : i / 64 ≡ length ws - 1 = omega arith in
          rw q (high_clear (get_or ws (length ws - 1) 0) (d % 64) (i % 64) (e (omega arith)) (omega arith))

  pub clear_last : get_or ws (length ws - 1) 0 < 2 ^ 64 → 0 < d % 64 → Clear d ws
      → get_or ws (length ws - 1) 0 / 2 ^ (d % 64) ≡ 0
  clear_last fits part c =
      high_none (get_or ws (length ws - 1) 0) (d % 64) fits
      (λ k low high. sym (bit_at_lem ws (length ws - 1) k high) ∙ c.clear (64 * (length ws - 1) + k) (omega arith))
