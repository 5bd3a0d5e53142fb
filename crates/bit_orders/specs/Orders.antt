-- Document 01, "Slices and order": how bit vectors of equal dims compare, and when they are equal.
use Rattle.std.specs.Prelude.{ℕ, Bool, not, cond, List, eqb, length, get_or}
use Rattle.places.specs.Below.{any_below}
use Rattle.places.specs.Search.{first_from}
use Rattle.std.specs.declared.cmp.Ordering.{Ordering}
use Rattle.std.specs.declared.cmp.Ordering.TheVariants.{Less, Equal, Greater}
use Rattle.bit_words.specs.Ops.{both}
use Rattle.bit_words.specs.declared.Op.TheVariants.{Xor}

-- "the position of the lowest differing bit", of two sides f and g with n places; n where no place differs
abbrev pub lowest : (ℕ → Bool) → (ℕ → Bool) → ℕ → ℕ
lowest f g n = first_from (λ i. both Xor (f i) (g i)) n 0

-- "decides: the side with a one there is Greater"; f is the left side, and i the lowest differing place
abbrev pub decided : (ℕ → Bool) → ℕ → ℕ → Ordering
decided f n i = cond (eqb i n) Equal (cond (f i) Greater Less)

abbrev pub order_below : (ℕ → Bool) → (ℕ → Bool) → ℕ → Ordering
order_below f g n = decided f n (lowest f g n)

-- "all words": no word of a differs from the word of b at its place; checked vectors of equal dims have as many words, so that then the
-- lists are equal (proofs/Equality.antt)
abbrev pub same_words : List ℕ → List ℕ → Bool
same_words a b = not (any_below (λ i. not (eqb (get_or a i 0) (get_or b i 0))) (length a))
