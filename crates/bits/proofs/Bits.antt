-- The bits of one word, and a word put together from bits. Assumes nothing.
use Rattle.std.proofs.Common.{◌≡◌, ℕ, zero, suc, ◌+◌, ◌*◌, ◌/◌, ◌%◌, ◌^◌, ◌<◌, Bool, true, false, eqb, refl, sym, ap, ◌∙◌, arith, add-zero, pow-suc, mul_assoc, div-one, pow_pos, shr-shr}
use Rattle.std.proofs.Math.Nat.{div-eq_of_lt}
use lib.Arith.{lt-one}
use Rattle.places.specs.Below.{one}
use Rattle.places.proofs.Below.{one_most}
use Rattle.bits.specs.Bits.{bit_of, word_from}

-- a remainder by two is a bit
pub one_bit : (n : ℕ) → n < 2 → one (eqb n 1) ≡ n
one_bit zero h = refl
one_bit (suc zero) h = refl
one_bit (suc (suc n)) h = absurd (omega arith)

bit_one : (b : Bool) → eqb (one b) 1 ≡ b
bit_one true = refl
bit_one false = refl

-- the lowest bit, and the others one place lower
pub bit_zero : (w : ℕ) → bit_of w 0 ≡ eqb (w % 2) 1
unfolding bit_of
bit_zero w = ap (λ (n : ℕ). eqb (n % 2) 1) (div-one w)

pub bit_suc : (w k : ℕ) → bit_of w (1 + k) ≡ bit_of (w / 2) k
unfolding bit_of
bit_suc w k = ap (λ (n : ℕ). eqb (n % 2) 1) (sym (shr-shr w 1 k))

-- above a word's digits there is no bit
pub bit_above : (w k : ℕ) → w < 2 ^ k → bit_of w k ≡ false
unfolding bit_of
bit_above w k h = rw (div-eq_of_lt h)

pub bit_none : (k : ℕ) → bit_of 0 k ≡ false
bit_none k = bit_above 0 k (pow_pos k)

-- ---- put back into a word

pub half_lt : (w k : ℕ) → w < 2 ^ suc k → w / 2 < 2 ^ k
half_lt w k h = let l : w < 2 ^ k * 2 = rw pow-suc at h in omega arith

-- words that have the same bits
pub word_same : (f g : ℕ → Bool) (s t n : ℕ) → ((k : ℕ) → k < n → f (s + k) ≡ g (t + k)) → word_from f s n ≡ word_from g t n
unfolding word_from
word_same f g s t zero same = refl
word_same f g s t (suc n) same = rw (word_same f g s t n (λ k h. same k (omega arith)), same n (omega arith))

pub word_clear : (f : ℕ → Bool) (s n : ℕ) → ((k : ℕ) → k < n → f (s + k) ≡ false) → word_from f s n ≡ 0
unfolding word_from
word_clear f s zero none = refl
word_clear f s (suc n) none = rw (word_clear f s n (λ k h. none k (omega arith)), none n (omega arith)) (omega arith)

-- the lowest bit first
word_low : (f : ℕ → Bool) (s n : ℕ) → word_from f s (suc n) ≡ one (f s) + word_from f (suc s) n * 2
unfolding word_from
word_low f s zero = ap (λ (i : ℕ). 0 + one (f i) * 1) (add-zero s) ∙ omega arith
word_low f s (suc n) =
    let e : s + suc n ≡ suc s + n = omega arith in
    rw (e, word_low f s n, pow-suc) (omega (arith, mul_assoc (one (f (suc s + n))) (2 ^ n) 2))

pub word_lt : (f : ℕ → Bool) (n s : ℕ) → word_from f s n < 2 ^ n
unfolding word_from
word_lt f zero s = omega arith
word_lt f (suc n) s = rw (word_low, pow-suc) (omega (arith, one_most (f s), word_lt f n (suc s)))

-- a word is the number of its bits
pub word_is : (f : ℕ → Bool) (n s w : ℕ) → w < 2 ^ n → ((k : ℕ) → k < n → bit_of w k ≡ f (s + k)) → w ≡ word_from f s n
unfolding word_from
word_is f zero s w h same = lt-one h
word_is f (suc n) s w h same =
    let low : w % 2 ≡ one (f s) =
    sym (one_bit (w % 2) (omega arith)) ∙ ap one (sym (bit_zero w) ∙ same 0 (omega arith) ∙ ap f (add-zero s)) in
    let rest : w / 2 ≡ word_from f (suc s) n =
    word_is f n (suc s) (w / 2) (half_lt w n h) (λ k l. sym (bit_suc w k) ∙ same (1 + k) (omega arith) ∙ ap f (omega arith)) in
    rw word_low (omega (arith, low, rest))

pub bit_word : (f : ℕ → Bool) (n s k : ℕ) → k < n → bit_of (word_from f s n) k ≡ f (s + k)
bit_word f zero s k h = absurd (omega arith)
bit_word f (suc n) s zero h =
    let low : word_from f s (suc n) % 2 ≡ one (f s) = rw word_low (omega (arith, one_most (f s))) in
    bit_zero (word_from f s (suc n)) ∙ ap (λ (b : ℕ). eqb b 1) low ∙ bit_one (f s) ∙ ap f (sym (add-zero s))
bit_word f (suc n) s (suc k) h =
    let rest : word_from f s (suc n) / 2 ≡ word_from f (suc s) n = rw word_low (omega (arith, one_most (f s))) in
    let e : suc k ≡ 1 + k = omega arith in
    rw e (bit_suc (word_from f s (suc n)) k ∙ ap (λ (w : ℕ). bit_of w k) rest ∙ bit_word f n (suc s) k (omega arith) ∙ ap f (omega arith))
