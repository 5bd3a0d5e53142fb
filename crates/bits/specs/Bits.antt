-- Document 01, "What makes a vector valid": a bit vector is a bit at each place, kept in words of 64.
use Rattle.std.specs.Prelude.{ℕ, zero, suc, ◌+◌, ◌*◌, ◌/◌, ◌%◌, ◌^◌, Bool, ◌&&◌, List, ltb, eqb, get_or}
use Rattle.places.specs.Below.{one, list_below}

-- bit k of a word
unfoldable pub bit_of : ℕ → ℕ → Bool
bit_of w k = eqb (w / 2 ^ k % 2) 1

-- "Bit i is bit (i mod 64) of word i/64."
unfoldable pub bit_at : List ℕ → ℕ → Bool
unfolding bit_of
bit_at ws i = bit_of (get_or ws (i / 64) 0) (i % 64)

-- "exactly ceil(dims/64) words"
abbrev pub words_for : ℕ → ℕ
words_for d = (d + 63) / 64

-- the number whose bit k is f (s + k), for the k below n
unfoldable pub word_from : (ℕ → Bool) → ℕ → ℕ → ℕ
word_from f s zero = 0
word_from f s (suc k) = word_from f s k + one (f (s + k)) * 2 ^ k

-- nothing at or above d
abbrev pub cut : ℕ → (ℕ → Bool) → ℕ → Bool
cut d f i = ltb i d && f i

-- the words of the vector of d bits that has f i at each place i below d: the padding bits are clear
abbrev pub words_of : ℕ → (ℕ → Bool) → List ℕ
words_of d f = list_below (λ j. word_from (cut d f) (64 * j) 64) (words_for d)
