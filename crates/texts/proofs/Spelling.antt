-- How a number is spelled: its last digit alone, or after the digits of the rest; and how long texts are at most. Assumes nothing.
use Prim.Native.Nat.{ℕ, zero, suc, ◌+◌, ◌-◌, ◌*◌, ◌/◌, ◌%◌, ◌≤◌, ◌<◌}
use native.Mathlib.Omega.{arith}
use native.Mathlib.Numerals.{add-one}
use mathlib.Core.Bool.{Bool, true, false, not, ◌&&◌, cond, and-false}
use mathlib.Core.List.{List, [], ◌∷◌, ◌++◌, append_assoc, append-nil}
use mathlib.Core.Logic.{◌⊎◌, inl, inr}
use mathlib.Core.Path.{◌≡◌, refl, sym, ap, ◌∙◌}
use lib.Dec.{ltb}
use lib.ListN.{length, get_or, take, length-append}
use borrow.Author.Tests.{lt-ltb, le-ltb}
use Rattle.texts.specs.Texts.{glyph, spelled, entry_text, entries_text}

module _ (base : ℕ) (padded : Bool) (n : ℕ) where
  pub spelled_none : (k : ℕ) → k ≡ 0 → spelled base padded k n ≡ []
  unfolding spelled
  spelled_none zero e = refl
  spelled_none (suc k) e = absurd (omega arith)

  pub spelled_one : (k : ℕ) → 0 < k → n < base → not padded ≡ true → spelled base padded k n ≡ glyph (n % base) ∷ []
  unfolding spelled
  spelled_one zero h l e = absurd (omega arith)
  spelled_one (suc k) h l e = rw (lt-ltb n base l, e)

  pub spelled_more : (k : ℕ) → 0 < k → (not padded ≡ false) ⊎ (base ≤ n)
      → spelled base padded k n ≡ spelled base padded (k - 1) (n / base) ++ (glyph (n % base) ∷ [])
  unfolding spelled
  spelled_more zero h e = absurd (omega arith)
  spelled_more (suc k) h e =
      let less : k ≡ suc k - 1 = omega arith in
      ap (λ (b : Bool). cond b [] (spelled base padded k (n / base)) ++ (glyph (n % base) ∷ [])) (other e)
      ∙ ap (λ (j : ℕ). spelled base padded j (n / base) ++ (glyph (n % base) ∷ [])) less
    where
      other : (not padded ≡ false) ⊎ (base ≤ n) → (ltb n base && not padded) ≡ false
      other (inl q) = rw (q, and-false (ltb n base))
      other (inr l) = rw (le-ltb n base l)

-- ---- how long the texts are at most

pub spelled_length : (base : ℕ) (padded : Bool) (k n : ℕ) → length (spelled base padded k n) ≤ k
unfolding spelled
spelled_length base padded zero n = omega arith
spelled_length base padded (suc k) n = go (ltb n base && not padded) (spelled_length base padded k (n / base))
  where
    go : (b : Bool) → length (spelled base padded k (n / base)) ≤ k
        → length (cond b [] (spelled base padded k (n / base)) ++ (glyph (n % base) ∷ [])) ≤ suc k
    go true h = omega arith
    go false h = omega (arith, h, length-append (spelled base padded k (n / base)) (glyph (n % base) ∷ []))

pub entry_length : (i b : ℕ) → length (entry_text i b) ≤ 30
entry_length i b = simp length-append (omega (arith, spelled_length 10 false 20 i, spelled_length 16 true 8 b))

pub entries_length : (is bs : List ℕ) → length (entries_text is bs) ≤ 30 * length is
unfolding entries_text
entries_length [] bs = omega arith
entries_length (i ∷ is) [] = omega arith
entries_length (i ∷ is) (b ∷ bs) =
    omega (arith, entry_length i b, entries_length is bs, length-append (entry_text i b) (entries_text is bs))

-- ---- one entry more

pub entries_none : (bs : List ℕ) → entries_text [] bs ≡ []
unfolding entries_text
entries_none bs = refl

more : (is bs : List ℕ) (k : ℕ) → k < length is → k < length bs
    → entries_text (take k is) (take k bs) ++ entry_text (get_or is k 0) (get_or bs k 0) ≡ entries_text (take (suc k) is) (take (suc k) bs)
unfolding entries_text
more [] bs k h l = absurd (omega arith)
more (i ∷ is) [] k h l = absurd (omega arith)
more (i ∷ is) (b ∷ bs) zero h l = sym (append-nil (entry_text i b))
more (i ∷ is) (b ∷ bs) (suc k) h l =
    append_assoc (entry_text i b) (entries_text (take k is) (take k bs)) (entry_text (get_or is k 0) (get_or bs k 0))
    ∙ ap (λ (t : List ℕ). entry_text i b ++ t) (more is bs k (omega arith) (omega arith))

pub entries_more : (is bs : List ℕ) (k : ℕ) → k < length is → k < length bs
    → entries_text (take k is) (take k bs) ++ entry_text (get_or is k 0) (get_or bs k 0) ≡ entries_text (take (k + 1) is) (take (k + 1) bs)
entries_more is bs k h l = more is bs k h l ∙ ap (λ (n : ℕ). entries_text (take n is) (take n bs)) (sym (add-one k))
