-- What a call writes is a bit vector, and has the bits that were asked for; a vector is known by its bits. Assumes nothing.
use Rattle.std.proofs.Common.{◌≡◌, ℕ, ◌+◌, ◌*◌, ◌/◌, ◌%◌, ◌^◌, ◌≤◌, ◌<◌, Bool, List, get_or, ⊎_elim, sym, ap, ◌∙◌, arith, ext_get_or, le-ltb}
use Rattle.places.proofs.Below.{at_below, length_below, le_or_lt}
use Rattle.refusal.specs.Answers.{Valid}
use Rattle.bits.specs.Bits.{bit_of, bit_at, cut, word_from, words_for, words_of}
use Rattle.bits.specs.Vectors.{bits}
use Rattle.bits.specs.Calls.{checked_of}
use Rattle.bits.proofs.Bits.{bit_word, word_is}
use Rattle.bits.proofs.Vectors.{bit_at_lem, bit_past}
use Rattle.bits.proofs.Checks.{Sound, valid}

module _ (d : ℕ) (f : ℕ → Bool) where
  -- bit i of the words is f i below d, and clear from d on
  pub words_bit : (i : ℕ) → bit_at (words_of d f) i ≡ cut d f i
  unfolding bit_at
  words_bit i = ⊎_elim past inside (le_or_lt (64 * words_for d) i)
    where
      past : 64 * words_for d ≤ i → bit_at (words_of d f) i ≡ cut d f i
      past h = bit_past (words_of d f) i (rw length_below h) ∙ rw (le-ltb i d (omega arith))

      inside : i < 64 * words_for d → bit_at (words_of d f) i ≡ cut d f i
      inside h =
          let e : 64 * (i / 64) + i % 64 ≡ i = omega arith in
          ap (λ (w : ℕ). bit_of w (i % 64)) (at_below (λ j. word_from (cut d f) (64 * j) 64) (words_for d) (i / 64) 0 (omega arith))
          ∙ bit_word (cut d f) 64 (64 * (i / 64)) (i % 64) (omega arith)
          ∙ ap (cut d f) e

  -- and they pass the check
  pub words_valid : 1 ≤ d → d ≤ 65535 → checked_of (bits d (words_of d f)) ≡ Valid
  words_valid low high =
      valid (bits d (words_of d f))
      (record { low = low; high = high; long = length_below _ (words_for d); clear = λ i h. words_bit i ∙ rw (le-ltb i d h) })

-- two vectors of the same dims with the same bits are the same words
pub known_by_bits : (d : ℕ) (a b : List ℕ) → Sound (bits d a) → Sound (bits d b) → ((j : ℕ) → get_or a j 0 < 2 ^ 64) → ((j : ℕ) → get_or b j 0 < 2 ^ 64)
    → ((i : ℕ) → i < d → bit_at a i ≡ bit_at b i) → a ≡ b
known_by_bits d a b sa sb ha hb same =
    ext_get_or 0 a b (sa.long ∙ sym sb.long)
    (λ j l.
    word_is (bit_at b) 64 (64 * j) (get_or a j 0) (ha j) (λ k h. sym (bit_at_lem a j k h) ∙ every (64 * j + k))
    ∙ sym (word_is (bit_at b) 64 (64 * j) (get_or b j 0) (hb j) (λ k h. sym (bit_at_lem b j k h))))
  where
    every : (i : ℕ) → bit_at a i ≡ bit_at b i
    every i = ⊎_elim (λ h. sa.clear i h ∙ sym (sb.clear i h)) (same i) (le_or_lt d i)
