-- The lowest place at which two vectors differ is in the first word that does. Assumes nothing.
use Rattle.std.proofs.Common.{◌≡◌, ℕ, ◌+◌, ◌-◌, ◌*◌, ◌/◌, ◌%◌, ◌^◌, ◌≤◌, ◌<◌, Bool, true, false, not, cond, eqb, List, length, get_or, ⊎_elim, refl, sym, ap, ◌∙◌, arith, eq-or-lt_of_le, eq-eqb, ne_eqb, eqb-true}
use Rattle.std.proofs.lemmas.Bool.{false≢true}
use lib.Bits.{bit_xor, xor_lt}
use lib.Count.{count_trailing_zeros}
use Rattle.places.proofs.First.{found, none, before, most, hit}
use Rattle.places.proofs.Below.{le_or_lt, any_none, any_true}
use Rattle.std.specs.declared.cmp.Ordering.TheVariants.{Less, Equal, Greater}
use Rattle.bits.specs.Bits.{bit_of, bit_at}
use Rattle.bits.specs.Vectors.{BitVector}
use Rattle.bits.proofs.Pairs.{Pair}
use Rattle.bits.proofs.Vectors.{bit_at_lem}
use Rattle.bit_words.specs.Ops.{both}
use Rattle.bit_words.specs.declared.Op.TheVariants.{Xor}
use Rattle.bit_words.proofs.Joins.{bit_join}
use Rattle.bit_orders.proofs.Lowest.{Lowest, trailing_lowest, xor_some}
use Rattle.places.specs.Search.{first_from}
use borrow.Author.Tests.{not-false}
use Rattle.bit_orders.specs.Orders.{lowest, order_below, same_words}
use Rattle.bit_orders.specs.Words.{word_order, words_order}

same_bits : (b : Bool) → both Xor b b ≡ false
same_bits true = refl
same_bits false = refl

module _ (f g : ℕ → Bool) where
  abbrev differs : ℕ → Bool
  differs i = both Xor (f i) (g i)

  -- a lowest differing place decides
  pub order_at : (n i : ℕ) → i < n → differs i ≡ true → ((k : ℕ) → k < i → differs k ≡ false)
      → order_below f g n ≡ cond (f i) Greater Less
  order_at n i h e all =
      let l : lowest f g n ≡ i = found differs n 0 i (λ k a b. all k b) e (omega arith) (omega arith) in
      rw (l, ne_eqb i n (λ q. omega arith))

  -- without one they are equal
  pub order_none : (n : ℕ) → ((k : ℕ) → k < n → differs k ≡ false) → order_below f g n ≡ Equal
  order_none n all =
      let l : lowest f g n ≡ n = none differs n 0 (λ k a b. all k (omega arith)) ∙ omega arith in
      rw (l, eq-eqb n n refl)

  -- places that do not differ may be added
  pub order_rest : (d m : ℕ) → d ≤ m → ((k : ℕ) → d ≤ k → k < m → differs k ≡ false) → order_below f g m ≡ order_below f g d
  order_rest d m le rest = ⊎_elim all some (eq-or-lt_of_le (let h = most differs d 0 in omega arith))
    where
      earlier : (k : ℕ) → k < lowest f g d → differs k ≡ false
      earlier k l = before differs d 0 k (omega arith) l

      all : lowest f g d ≡ d → order_below f g m ≡ order_below f g d
      all e =
          order_none m (λ k l. ⊎_elim (λ h. rest k h l) (λ h. earlier k (omega arith)) (le_or_lt d k))
          ∙ sym (order_none d (λ k l. earlier k (omega arith)))

      some : lowest f g d < d → order_below f g m ≡ order_below f g d
      some l =
          let e : differs (lowest f g d) ≡ true = hit differs d 0 (omega arith) in
          order_at m (lowest f g d) (omega arith) e earlier ∙ sym (order_at d (lowest f g d) l e earlier)

-- ---- by words

-- a place in words that are equal does not differ
same_word : (a b : List ℕ) (k : ℕ) → get_or a (k / 64) 0 ≡ get_or b (k / 64) 0 → differs (bit_at a) (bit_at b) k ≡ false
unfolding bit_at
same_word a b k e = rw e (same_bits (bit_of (get_or b (k / 64) 0) (k % 64)))

-- the first n words are the same
abbrev pub SameFirst : List ℕ → List ℕ → ℕ → Type 0
SameFirst a b n = (j : ℕ) → j < n → get_or a j 0 ≡ get_or b j 0

pub words_equal : (a b : List ℕ) → SameFirst a b (length a) → words_order a b ≡ Equal
words_equal a b same = order_none (bit_at a) (bit_at b) (64 * length a) (λ k l. same_word a b k (same (k / 64) (omega arith)))

module _ (x y : ℕ) (hx : x < 2 ^ 64) (hy : y < 2 ^ 64) (other : x ≡ y → ⊥) where
  pub first_lowest : Lowest 64 (bit_xor x y) (count_trailing_zeros 64 (bit_xor x y))
  first_lowest = trailing_lowest 64 (bit_xor x y) (xor_some x y hx hy other) (xor_lt 64 x y hx hy)

  first_differs : differs (bit_of x) (bit_of y) (count_trailing_zeros 64 (bit_xor x y)) ≡ true
  first_differs = sym (bit_join Xor x y (count_trailing_zeros 64 (bit_xor x y))) ∙ first_lowest.set

  none_before : (k : ℕ) → k < count_trailing_zeros 64 (bit_xor x y) → differs (bit_of x) (bit_of y) k ≡ false
  none_before k l = sym (bit_join Xor x y k) ∙ first_lowest.below k l

  -- of two words the side with the one at their lowest differing bit is Greater
  word_decides : word_order x y ≡ cond (bit_of x (count_trailing_zeros 64 (bit_xor x y))) Greater Less
  word_decides = order_at (bit_of x) (bit_of y) 64 (count_trailing_zeros 64 (bit_xor x y)) first_lowest.inside first_differs none_before

  -- so the one's digit there is above the other's
  pub word_greater : y / 2 ^ count_trailing_zeros 64 (bit_xor x y) % 2 < x / 2 ^ count_trailing_zeros 64 (bit_xor x y) % 2 → word_order x y ≡ Greater
  unfolding bit_of
  word_greater h = rw (word_decides, eq-eqb (x / 2 ^ count_trailing_zeros 64 (bit_xor x y) % 2) 1 (omega arith))

  pub word_less : x / 2 ^ count_trailing_zeros 64 (bit_xor x y) % 2 ≤ y / 2 ^ count_trailing_zeros 64 (bit_xor x y) % 2 → word_order x y ≡ Less
  unfolding bit_of
  word_less h = go (bit_of x (count_trailing_zeros 64 (bit_xor x y))) refl first_differs
    where
      go : (b : Bool) → bit_of x (count_trailing_zeros 64 (bit_xor x y)) ≡ b → both Xor b (bit_of y (count_trailing_zeros 64 (bit_xor x y))) ≡ true
          → word_order x y ≡ Less
      go false e q = rw (word_decides, e)
      go true e q =
          let one : x / 2 ^ count_trailing_zeros 64 (bit_xor x y) % 2 ≡ 1 = eqb-true (x / 2 ^ count_trailing_zeros 64 (bit_xor x y) % 2) 1 e in
          let same : bit_of y (count_trailing_zeros 64 (bit_xor x y)) ≡ true = eq-eqb (y / 2 ^ count_trailing_zeros 64 (bit_xor x y) % 2) 1 (omega arith) in
          absurd (false≢true (rw same at q))

-- the first words that differ compare as the vectors do
module _ (a b : List ℕ) (i : ℕ) (hx : get_or a i 0 < 2 ^ 64) (hy : get_or b i 0 < 2 ^ 64) (other : get_or a i 0 ≡ get_or b i 0 → ⊥) where
  abbrev lowest_bit : ℕ
  lowest_bit = count_trailing_zeros 64 (bit_xor (get_or a i 0) (get_or b i 0))

  low_bit : Lowest 64 (bit_xor (get_or a i 0) (get_or b i 0)) lowest_bit
  low_bit = first_lowest (get_or a i 0) (get_or b i 0) hx hy other

  in_word : (k : ℕ) → k < 64 → differs (bit_at a) (bit_at b) (64 * i + k) ≡ differs (bit_of (get_or a i 0)) (bit_of (get_or b i 0)) k
  in_word k l = rw (bit_at_lem a i k l, bit_at_lem b i k l)

  earlier_bits : SameFirst a b i → (k : ℕ) → k < 64 * i + lowest_bit → differs (bit_at a) (bit_at b) k ≡ false
  earlier_bits same k l =
      ⊎_elim
      (λ past.
      ap (differs (bit_at a) (bit_at b)) (let e : k ≡ 64 * i + (k - 64 * i) = omega arith in e)
      ∙ in_word (k - 64 * i) (omega (arith, low_bit.inside))
      ∙ none_before (get_or a i 0) (get_or b i 0) hx hy other (k - 64 * i) (omega arith))
      (λ inside. same_word a b k (same (k / 64) (omega arith)))
      (le_or_lt (64 * i) k)

  pub words_decide : i < length a → SameFirst a b i → words_order a b ≡ word_order (get_or a i 0) (get_or b i 0)
  words_decide h same =
      order_at (bit_at a) (bit_at b) (64 * length a) (64 * i + lowest_bit) (omega (arith, low_bit.inside))
      (in_word lowest_bit low_bit.inside ∙ first_differs (get_or a i 0) (get_or b i 0) hx hy other)
      (earlier_bits same)
      ∙ ap (λ (s : Bool). cond s Greater Less) (bit_at_lem a i lowest_bit low_bit.inside)
      ∙ sym (word_decides (get_or a i 0) (get_or b i 0) hx hy other)

-- so words that compare as equal are the same, and others are not
module _ (a b : List ℕ) (fits : (i : ℕ) → get_or a i 0 < 2 ^ 64) (fits' : (i : ℕ) → get_or b i 0 < 2 ^ 64) where
  abbrev other_word : ℕ → Bool
  other_word j = not (eqb (get_or a j 0) (get_or b j 0))

  abbrev first_word : ℕ
  first_word = first_from other_word (length a) 0

  words_same : SameFirst a b (length a) → same_words a b ≡ true
  words_same same = ap not (any_none other_word (length a) (λ j h. ap not (eq-eqb (get_or a j 0) (get_or b j 0) (same j h))))

  words_differ : (i : ℕ) → i < length a → (get_or a i 0 ≡ get_or b i 0 → ⊥) → same_words a b ≡ false
  words_differ i h other = ap not (any_true other_word (length a) i h (ap not (ne_eqb (get_or a i 0) (get_or b i 0) other)))

  before_it : SameFirst a b first_word
  before_it j h = eqb-true (get_or a j 0) (get_or b j 0) (not-false (eqb (get_or a j 0) (get_or b j 0)) (before other_word (length a) 0 j (omega arith) h))

  at_it : first_word < length a → get_or a first_word 0 ≡ get_or b first_word 0 → ⊥
  at_it h e =
      let yes = hit other_word (length a) 0 (omega arith) in
      false≢true (sym (ap not (eq-eqb (get_or a first_word 0) (get_or b first_word 0) e)) ∙ yes)

  one_sided : (s : Bool) → cond s Greater Less ≡ Equal → ⊥
  one_sided true e = absurd cc
  one_sided false e = absurd cc

  pub equal_same : words_order a b ≡ Equal → same_words a b ≡ true
  equal_same e =
      ⊎_elim
      (λ all. words_same (λ j h. before_it j (omega arith)))
      (λ some.
      let x = first_word in
      absurd (one_sided _ (sym (word_decides (get_or a x 0) (get_or b x 0) (fits x) (fits' x) (at_it some))
      ∙ sym (words_decide a b x (fits x) (fits' x) (at_it some) some before_it) ∙ e)))
      (le_or_lt (length a) first_word)

  pub unequal_other : (words_order a b ≡ Equal → ⊥) → same_words a b ≡ false
  unequal_other other =
      ⊎_elim
      (λ all. absurd (other (words_equal a b (λ j h. before_it j (omega arith)))))
      (λ some. words_differ first_word some (at_it some))
      (le_or_lt (length a) first_word)

-- the padding decides nothing
pub order_dims : {a b : BitVector} → Pair a b → order_below (bit_at a.words) (bit_at b.words) a.dims ≡ words_order a.words b.words
order_dims {a} {b} p =
    sym
    (order_rest (bit_at a.words) (bit_at b.words) a.dims (64 * length a.words) (omega (arith, p.left.long))
    (λ k h l. rw (p.left.clear k h, p.right.clear k h)))
