-- The words of a line, one after another: a word ends at the next space. And what the first two say of the line. Assumes nothing.
use Rattle.std.proofs.Common.{◌≡◌, ℕ, suc, Bool, true, false, ◌&&◌, cond, leb, eqb, List, [], ◌∷◌, Option, Some, None, length, take, drop, refl, sym, ap, subst, add-one, drop-cons, ◌∙◌, ◌+◌, ◌-◌, ◌≤◌, arith, position, length-drop}
use Rattle.std.proofs.lemmas.Iterator.{YieldsList}
use Rattle.std.proofs.lemmas.Iterator.Consumers.{YieldsList-at, YieldsList-turn, YieldsList-end}
use Rattle.std.specs.Iterator.{AlwaysYields, Yields}
use Rattle.std.specs.List.{onto_first}
use Rattle.std.specs.Str.{bytes_eq}
use lib.Seq.{drop-length, take_all}
use lib.ListN.{drop_of_length-le}
use Rattle.finding.specs.Finding.{index_of, index_after}
use Rattle.finding.proofs.Parts.{found, missing}
use Rattle.lines.specs.Numerals.{decimal_of, bits_of}
use Rattle.lines.specs.declared.Item.{Item}
use Rattle.lines.specs.Lines.{Line, words, bad_line, entry, push, entry_of, entries_of, of_words, line_of}

-- ---- the words of a text

-- the words after the first byte of a text, which is a space; none where the text has ended
abbrev pub words_after : List ℕ → List (List ℕ)
words_after [] = []
words_after (c ∷ s) = words s

-- the first word, and those after it
pub first_word : (s : List ℕ) → words s ≡ take (index_of 32 s) s ∷ words_after (drop (index_of 32 s) s)
unfolding index_of index_after
first_word [] = refl
first_word (c ∷ s) = go (eqb c 32) (index_of 32 s) (first_word s)
  where
    go : (b : Bool) (e : ℕ) → words s ≡ take e s ∷ words_after (drop e s)
        → cond b ([] ∷ words s) (onto_first c (words s)) ≡ take (index_after b e) (c ∷ s) ∷ words_after (drop (index_after b e) (c ∷ s))
    go true e h = refl
    go false e h = rw h

-- ---- a line whose first words are known

-- dims, and words each of which is an entry, at most 128
abbrev pub listed : ℕ → List (List ℕ) → Line
listed d ws = cond (leb (length ws) 128) (entries_of (Some d) ws) bad_line

pub either : (b : Bool) → cond b bad_line bad_line ≡ bad_line
either true = refl
either false = refl

-- without dims a line is bad
pub no_dims : (v d : List ℕ) (ws : List (List ℕ)) → decimal_of d ≡ None → of_words (v ∷ d ∷ ws) ≡ bad_line
unfolding entries_of
no_dims v d ws e = rw (e, bad ws) (either (bytes_eq v (118 ∷ []) && leb (length ws) 128))
  where
    none : (i : Option Item) → push i bad_line ≡ bad_line
    none (Some e) = refl
    none None = refl

    bad : (us : List (List ℕ)) → entries_of None us ≡ bad_line
    bad [] = refl
    bad (u ∷ us) = rw (bad us) (none (entry_of u))

-- and without the word `v`
pub no_mark : (v : List ℕ) (ws : List (List ℕ)) → bytes_eq v (118 ∷ []) ≡ false → of_words (v ∷ ws) ≡ bad_line
no_mark v [] e = refl
no_mark v (d ∷ ws) e = rw e

-- with both it is read from there on
pub line_listed : (s v w : List ℕ) (ws : List (List ℕ)) {d : ℕ} → words s ≡ v ∷ w ∷ ws → bytes_eq v (118 ∷ []) ≡ true → decimal_of w ≡ Some d
    → line_of s ≡ listed d ws
line_listed s v w ws e mark dims = rw (e, mark, dims)

-- ---- the words that an iterator gives

module _ {S A B : Type 0} {steps : S → Option A → S → Type 0} {v : A → B} {s t : S} {r : Option A} where
  -- one more was taken of those that are left
  pub one_taken : {x : A} {all : List B} → YieldsList steps v s all → steps s r t → r ≡ Some x
      → (all ≡ v x ∷ drop 1 all) × YieldsList steps v t (drop 1 all)
  one_taken {x} {all} e step is = go all e.runs
    where
      taken : steps s (Some x) t
      taken = subst (λ (o : Option A). steps s o t) is step

      go : (l : List B) → AlwaysYields steps v s l → (l ≡ v x ∷ drop 1 l) × YieldsList steps v t (drop 1 l)
      go [] h = absurd (h x t taken)
      go (y ∷ ys) h = (ap (λ (z : B). z ∷ ys) (sym (h.1 x t taken).0), record { runs = (h.1 x t taken).1 })

-- the first two were taken, and then so many as xs
module _ {S A B : Type 0} {steps : S → Option A → S → Type 0} {v : A → B} {s₀ s₁ s₂ : S} {r r' : Option A} {x y : A} {all : List B}
    (from : YieldsList steps v s₀ all) (one : steps s₀ r s₁) (is : r ≡ Some x) (two : steps s₁ r' s₂) (is' : r' ≡ Some y) where
  abbrev left : List B
  left = drop 1 (drop 1 all)

  rest : (drop 1 all ≡ v y ∷ left) × YieldsList steps v s₂ left
  rest = one_taken (one_taken from one is).1 two is'

  pub two_words : all ≡ v x ∷ v y ∷ left
  two_words = (one_taken from one is).0 ∙ ap (λ (l : List B). v x ∷ l) rest.0

  module _ {t t' u : S} (xs : List A) {o : Option A} (begun : t ≡ s₂) (so_far : Yields steps t xs t') (next : steps t' o u) where
    road : YieldsList steps v t left
    road = YieldsList-at begun rest.1

    pub one_more : {z : A} → o ≡ Some z → drop (length xs) left ≡ v z ∷ drop (length xs + 1) left
    one_more {z} e =
        let turn = YieldsList-turn road xs t' so_far o u z e next in
        rw (add-one, turn.1) (drop-cons left (length xs) (v z) turn.0)

    pub no_more : o ≡ None → drop (length xs) left ≡ []
    no_more e = rw (YieldsList-end road xs t' so_far o u e next).1 (drop-length left)

-- ---- an entry

pub no_bits : (n : Option ℕ) → entry n None ≡ None
no_bits (Some i) = refl
no_bits None = refl

-- the colon is at k, if there is one
module _ (w : List ℕ) where
  pub no_colon : position (λ x. eqb x 58) w ≡ None → entry_of w ≡ None
  no_colon e =
      let end : length w ≤ suc (index_of 58 w) = omega (arith, missing 58 w e) in
      rw (drop_of_length-le w end) (no_bits (decimal_of (take (index_of 58 w) w)))

  module _ {k : ℕ} (colon : position (λ x. eqb x 58) w ≡ Some k) where
    pub two_parts : entry_of w ≡ entry (decimal_of (take k w)) (bits_of (take (length w - (k + 1)) (drop (k + 1) w)))
    two_parts =
        rw (take_all (length w - (k + 1)) (drop (k + 1) w) (omega (arith, length-drop (k + 1) w)), add-one, (found 58 w colon).0)
