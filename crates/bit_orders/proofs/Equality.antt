-- Equality of words is equality of the lists. Assumes nothing.
use Rattle.std.proofs.Common.{◌≡◌, ℕ, Bool, true, false, not, eqb, List, length, get_or, refl, sym, ap, ◌∙◌, eq-eqb, eqb-true, ext_get_or}
use Rattle.std.specs.Bool.{Decides}
use borrow.Author.Tests.{not-true, not-false}
use Rattle.places.specs.Below.{any_below}
use Rattle.places.proofs.Below.{any_false, any_none}
use Rattle.bit_orders.specs.Orders.{same_words}

pub same_lists : (a b : List ℕ) → length a ≡ length b → same_words a b ≡ true → a ≡ b
same_lists a b long e =
    ext_get_or 0 a b long
    (λ i h.
    eqb-true (get_or a i 0) (get_or b i 0)
    (not-false (eqb (get_or a i 0) (get_or b i 0))
    (any_false (λ j. not (eqb (get_or a j 0) (get_or b j 0))) (length a) i (not-true (any_below (λ j. not (eqb (get_or a j 0) (get_or b j 0))) (length a)) e) h)))

pub same_itself : (a : List ℕ) → same_words a a ≡ true
same_itself a = ap not (any_none (λ j. not (eqb (get_or a j 0) (get_or a j 0))) (length a) (λ i h. ap not (eq-eqb (get_or a i 0) (get_or a i 0) refl)))

-- so what decides the one decides the other
pub same_decided : (a b : List ℕ) (r : Bool) → length b ≡ length a → Decides r (a ≡ b) → r ≡ same_words a b
same_decided a b r long d = go r refl (same_words a b) refl
  where
    go : (s : Bool) → r ≡ s → (t : Bool) → same_words a b ≡ t → r ≡ same_words a b
    go true e t f = let same : same_words a b ≡ true = rw (d.0 e) (same_itself b) in e ∙ sym same
    go false e false f = e ∙ sym f
    go false e true f = let yes = d.1 (same_lists a b (sym long) f) in absurd cc
