-- The 64 bits from any place on, taken from two neighbouring words; and the lowest of them alone. Assumes nothing.
use Rattle.std.proofs.Common.{◌≡◌, ℕ, zero, suc, ◌+◌, ◌-◌, ◌*◌, ◌/◌, ◌%◌, ◌^◌, ◌≤◌, ◌<◌, Bool, List, [], ◌∷◌, ◌++◌, length, get_or, set, take, drop, replicate, refl, sym, ap, ◌∙◌, arith, lt-ltb, le-ltb, length-take-le}
use Rattle.std.proofs.Math.Nat.{mul_assoc, mul_comm, add-mul, mul-mod_left}
use Rattle.std.proofs.lemmas.List.{replicate_more}
use lib.Bits.{bit_or, or_shifted_r}
use lib.Pow.{pow-add, high, low, mod-pow-add, shl-shr, shr_lt}
use Rattle.places.specs.Below.{one, list_below}
use Rattle.places.proofs.Below.{list_same, wrote_more}
use Rattle.bits.specs.Bits.{bit_at, cut, word_from}
use Rattle.bits.proofs.Bits.{word_same, word_clear, word_lt, word_is}
use Rattle.bits.proofs.Vectors.{bit_at_lem}
use Rattle.bit_slices.specs.Loops.{joined}

-- ---- what shifts give: of a number that is shifted up in w bits, its lowest ones are left
shl_low : (a j t w : ℕ) → j + t ≡ w → a * 2 ^ t % 2 ^ w ≡ a % 2 ^ j * 2 ^ t
shl_low a j t w e = rw (← e) (mod-pow-add (a * 2 ^ t) j t ∙ rw (shl-shr a t, mul-mod_left) (omega arith))

-- up and down again
pub shl_shr_low : (a j t : ℕ) → j + t ≡ 64 → a * 2 ^ t % 2 ^ 64 / 2 ^ t ≡ a % 2 ^ j
shl_shr_low a j t e = rw (shl_low a j t 64 e) (shl-shr (a % 2 ^ j) t)

-- what is shifted up lies above what is shifted down, so that OR is a sum
pub joins : (lo hi s t : ℕ) → s + t ≡ 64 → lo < 2 ^ 64 → bit_or (lo / 2 ^ s) (hi * 2 ^ t % 2 ^ 64) ≡ joined lo hi s
unfolding joined
joins lo hi s t e fits =
    let u : t + s ≡ 64 = omega arith in
    let v : t ≡ 64 - s = omega arith in
    rw (shl_low hi s t 64 e, or_shifted_r (hi % 2 ^ s) t (lo / 2 ^ s) (shr_lt t s (rw u fits)), ← v)

-- ---- the bits of a word, cut in two
module _ (f : ℕ → Bool) (s m : ℕ) where
  -- m bits, and above them n more
  word_add : (n : ℕ) → word_from f s (m + n) ≡ word_from f (s + m) n * 2 ^ m + word_from f s m
  unfolding word_from
  word_add zero = let e : m + 0 ≡ m = omega arith in rw e (omega arith)
  word_add (suc n) =
      let e : m + suc n ≡ suc (m + n) = omega arith in
      let p : s + (m + n) ≡ s + m + n = omega arith in
      let b = one (f (s + m + n)) in
      rw (e, p, word_add n, pow-add 2 m n, add-mul)
      (omega (arith, mul_assoc b (2 ^ n) (2 ^ m), mul_comm (2 ^ m) (2 ^ n)))

  word_low : (n : ℕ) → word_from f s (m + n) % 2 ^ m ≡ word_from f s m
  word_low n = rw word_add (low (word_from f (s + m) n) m (word_lt f m s))

  word_high : (n : ℕ) → word_from f s (m + n) / 2 ^ m ≡ word_from f (s + m) n
  word_high n = rw word_add (high (word_from f (s + m) n) m (word_lt f m s))

-- ---- two neighbours
module _ (ws : List ℕ) where
  -- a word is its own 64 bits
  pub own : (k : ℕ) → get_or ws k 0 < 2 ^ 64 → get_or ws k 0 ≡ word_from (bit_at ws) (64 * k) 64
  own k fits = word_is (bit_at ws) 64 (64 * k) (get_or ws k 0) fits (λ i h. sym (bit_at_lem ws k i h))

  module _ (k s : ℕ) (short : s ≤ 64) (fits : get_or ws k 0 < 2 ^ 64) where
    -- the upper part of word k, from bit s on
    pub upper : get_or ws k 0 / 2 ^ s ≡ word_from (bit_at ws) (64 * k + s) (64 - s)
    upper =
        let e : s + (64 - s) ≡ 64 = omega arith in
        let w : get_or ws k 0 ≡ word_from (bit_at ws) (64 * k) (s + (64 - s)) = rw e (own k fits) in
        rw w (word_high (bit_at ws) (64 * k) s (64 - s))

    -- the 64 bits from place 64 k + s on are the upper part of word k joined with the lower part of word k + 1, which is 0 past the last
    pub neighbours : get_or ws (k + 1) 0 < 2 ^ 64 → joined (get_or ws k 0) (get_or ws (k + 1) 0) s ≡ word_from (bit_at ws) (64 * k + s) 64
    unfolding joined
    neighbours fits' =
        let e : 64 - s + s ≡ 64 = omega arith in
        let e' : s + (64 - s) ≡ 64 = omega arith in
        let p : 64 * (k + 1) ≡ 64 * k + s + (64 - s) = omega arith in
        let w : get_or ws (k + 1) 0 ≡ word_from (bit_at ws) (64 * k + s + (64 - s)) (s + (64 - s)) = rw (e', ← p) (own (k + 1) fits') in
        rw (w, word_low (bit_at ws) (64 * k + s + (64 - s)) s (64 - s), upper)
        (sym (word_add (bit_at ws) (64 * k + s) (64 - s) s) ∙ ap (word_from (bit_at ws) (64 * k + s)) e)

-- ---- the bits below an end
-- the lowest of n bits are all that is below the end
pub below : (f : ℕ → Bool) (s n end : ℕ) → s ≤ end → end ≤ s + n → n ≤ 64 → word_from f s n % 2 ^ (end - s) ≡ word_from (cut end f) s 64
below f s n end low high short =
    let m = end - s in
    let e : m + (n - m) ≡ n = omega arith in
    let e' : m + (64 - m) ≡ 64 = omega arith in
    let none = word_clear (cut end f) (s + m) (64 - m) (λ k l. rw (le-ltb (s + m + k) end (omega arith))) in
    let same = word_same (cut end f) f s s m (λ k l. rw (lt-ltb (s + k) end (omega arith))) in
    let all : word_from (cut end f) s (m + (64 - m)) ≡ word_from f s m = word_add (cut end f) s m (64 - m) ∙ rw (none, same) (omega arith) in
    ap (λ (i : ℕ). word_from f s i % 2 ^ m) (sym e) ∙ word_low f s m (n - m) ∙ sym all ∙ ap (word_from (cut end f) s) e'

-- ---- n words that are whole, and after them the last one
pub gathered : (f : ℕ → Bool) (start end n : ℕ) (old : List ℕ) {left : List ℕ} {word : ℕ} → start + 64 * n ≤ end → n < length old
    → left ≡ list_below (λ j. word_from f (start + 64 * j) 64) n ++ drop n old → word ≡ word_from (cut end f) (start + 64 * n) 64
    → set left n word ≡ list_below (λ j. word_from (cut end f) (start + 64 * j) 64) (n + 1) ++ drop (n + 1) old
gathered f start end n old within room front last =
    let same = list_same (λ j. word_from f (start + 64 * j) 64) (λ j. word_from (cut end f) (start + 64 * j) 64) n
    (λ j h. sym (word_same (cut end f) f (start + 64 * j) (start + 64 * j) 64 (λ k l. rw (lt-ltb (start + 64 * j + k) end (omega arith))))) in
    (wrote_more (record { room = omega arith; front = front ∙ ap (λ (l : List ℕ). l ++ drop n old) same }) room last).front

-- ---- n clear words
clear_words : (n : ℕ) → replicate {A = ℕ} n 0 ≡ list_below (λ i. 0) n
unfolding list_below
clear_words zero = refl
clear_words (suc n) =
    let e : suc n ≡ n + 1 = omega arith in
    ap (λ (m : ℕ). replicate m 0) e ∙ sym (replicate_more n 0) ∙ ap (λ (l : List ℕ). l ++ (0 ∷ [])) (clear_words n)

-- the first n places of a list, once they are filled with them
pub cleared : (n : ℕ) (old : List ℕ) {left : List ℕ} → n ≤ length old → left ≡ replicate (length (take n old)) 0 → left ≡ list_below (λ i. 0) n
cleared n old room e = e ∙ ap (λ (m : ℕ). replicate m 0) (length-take-le n old room) ∙ clear_words n
