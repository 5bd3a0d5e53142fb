-- The lowest bit at which two words differ: as many zeros stand below it in their XOR. Assumes nothing.
use Rattle.std.proofs.Common.{◌≡◌, ℕ, zero, suc, ◌+◌, ◌/◌, ◌%◌, ◌^◌, ◌<◌, Bool, true, false, eqb, refl, sym, ap, ◌∙◌, arith}
use lib.Arith.{lt-one}
use lib.Bits.{bit_xor}
use lib.Count.{count_trailing_zeros, under}
use Rattle.bits.specs.Bits.{bit_of}
use Rattle.bits.proofs.Bits.{bit_zero, bit_suc, bit_none, half_lt, word_is}
use Rattle.bit_words.specs.Ops.{both}
use Rattle.bit_words.specs.declared.Op.TheVariants.{Xor}
use Rattle.bit_words.proofs.Joins.{bit_join}

-- the lowest set bit of a number below 2 ^ k that is not 0
pub record Lowest (k n t : ℕ) : Type 0 where
  pub inside : t < k
  pub set : bit_of n t ≡ true
  pub below : (i : ℕ) → i < t → bit_of n i ≡ false

pub trailing_lowest : (k n : ℕ) → 0 < n → n < 2 ^ k → Lowest k n (count_trailing_zeros k n)
unfolding count_trailing_zeros
trailing_lowest zero n p h = absurd (omega (arith, lt-one h))
trailing_lowest (suc k) n p h = go (n % 2) refl (trailing_lowest k (n / 2))
  where
    go : (b : ℕ) → n % 2 ≡ b → (0 < n / 2 → n / 2 < 2 ^ k → Lowest k (n / 2) (count_trailing_zeros k (n / 2)))
        → Lowest (suc k) n (under b (count_trailing_zeros k (n / 2)))
    go (suc b) e rest =
        let odd : n % 2 ≡ 1 = omega arith in
        record { inside = omega arith; set = bit_zero n ∙ ap (λ (m : ℕ). eqb m 1) odd; below = λ i l. absurd (omega arith) }
    go zero e rest =
        let r = rest (omega arith) (half_lt n k h) in
        let q : suc (count_trailing_zeros k (n / 2)) ≡ 1 + count_trailing_zeros k (n / 2) = omega arith in
        record {
          inside = omega (arith, r.inside);
          set = rw q (bit_suc n (count_trailing_zeros k (n / 2)) ∙ r.set);
          below = step r.below;
        }
      where
        step : ((i : ℕ) → i < count_trailing_zeros k (n / 2) → bit_of (n / 2) i ≡ false)
            → (i : ℕ) → i < suc (count_trailing_zeros k (n / 2)) → bit_of n i ≡ false
        step all zero l = bit_zero n ∙ ap (λ (m : ℕ). eqb m 1) e
        step all (suc i) l = let q : suc i ≡ 1 + i = omega arith in rw q (bit_suc n i ∙ all i (omega arith))

-- two bits that do not differ are equal
alike_bits : (a b : Bool) → both Xor a b ≡ false → a ≡ b
alike_bits true true e = refl
alike_bits false false e = refl
alike_bits true false e = e
alike_bits false true e = sym e

-- words that differ have a bit that does
pub xor_some : (x y : ℕ) → x < 2 ^ 64 → y < 2 ^ 64 → (x ≡ y → ⊥) → 0 < bit_xor x y
xor_some x y hx hy differ = go (bit_xor x y) refl
  where
    bits : bit_xor x y ≡ 0 → (k : ℕ) → bit_of x k ≡ bit_of y k
    bits e k = alike_bits (bit_of x k) (bit_of y k) (sym (bit_join Xor x y k) ∙ ap (λ (w : ℕ). bit_of w k) e ∙ bit_none k)

    go : (w : ℕ) → bit_xor x y ≡ w → 0 < bit_xor x y
    go (suc w) e = omega arith
    go zero e =
        absurd (differ
        (word_is (bit_of y) 64 0 x hx (λ k l. bits e k ∙ ap (bit_of y) (omega arith))
        ∙ sym (word_is (bit_of y) 64 0 y hy (λ k l. ap (bit_of y) (omega arith)))))
