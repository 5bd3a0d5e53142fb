-- What equality means: equal vectors have the same indexes, and values that are equal, entry by entry. Assumes nothing.
use Rattle.std.proofs.Common.{◌≡◌, ℕ, zero, suc, ◌<◌, Bool, true, false, not, ◌&&◌, List, [], ◌∷◌, eqb, length, get_or, refl, sym, ap, true≢false, arith, ext_get_or, eq-eqb, eqb-true}
use lib.Ieee.{eq, nan}
use lib.Pointwise.{pointwise, bytes_decides}
use borrow.Author.Tests.{not-true}
use Rattle.places.specs.Below.{any_below}
use Rattle.places.proofs.Below.{and_true, any_false, any_none}
use Rattle.sparse.specs.Sound.{Sound}
use Rattle.sparse.specs.Vectors.{Vector, size}
use Rattle.sparse_orders.specs.Orders.{index_at, value_at, same_entry, same_entries}
use Rattle.sparse_orders.proofs.Others.{same_entry_lem}

module _ (a b : Vector) where
  abbrev differ : ℕ → Bool
  differ i = not (same_entry a b i)

  module _ (same : same_entries a b ≡ true) where
    pub both : (size a ≡ size b) × (any_below differ (size a) ≡ false)
    both =
        let t = and_true (eqb (size a) (size b)) (not (any_below differ (size a))) same in
        (eqb-true (size a) (size b) t.0, not-true (any_below differ (size a)) t.1)

    each : (i : ℕ) → i < size a → (index_at a i ≡ index_at b i) × (eq (value_at a i) (value_at b i) ≡ true)
    each i h = same_entry_lem a b i (any_false differ (size a) i both.1 h)

    pub same_indexes : a.indexes ≡ b.indexes
    same_indexes = ext_get_or 0 a.indexes b.indexes both.0 (λ i h. (each i h).0)

    pub same_values : (i : ℕ) → i < size a → eq (value_at a i) (value_at b i) ≡ true
    same_values i h = (each i h).1

  -- and these are all that it takes
  pub same_entries_lem : a.indexes ≡ b.indexes → ((i : ℕ) → i < size a → eq (value_at a i) (value_at b i) ≡ true) → same_entries a b ≡ true
  same_entries_lem e all =
      rw (
        eq-eqb (size a) (size b) (ap length e),
        any_none differ (size a) (λ i h. rw (eq-eqb (index_at a i) (index_at b i) (ap (λ (l : List ℕ). get_or l i 0) e), all i h)),
      )

-- ---- lists compared pair by pair

module _ {A : Type 0} (E : A → A → Bool) (z : A) where
  pub pair_at : (xs ys : List A) → pointwise E xs ys ≡ true → (i : ℕ) → i < length xs → E (get_or xs i z) (get_or ys i z) ≡ true
  pair_at [] ys e i h = absurd (omega arith)
  pair_at (x ∷ xs) [] e i h = absurd (true≢false (sym e))
  pair_at (x ∷ xs) (y ∷ ys) e zero h = (and_true (E x y) (pointwise E xs ys) e).0
  pair_at (x ∷ xs) (y ∷ ys) e (suc i) h = pair_at xs ys (and_true (E x y) (pointwise E xs ys) e).1 i (omega arith)

  pub pairs : (xs ys : List A) → length xs ≡ length ys → ((i : ℕ) → i < length xs → E (get_or xs i z) (get_or ys i z) ≡ true)
      → pointwise E xs ys ≡ true
  pairs [] [] l all = refl
  pairs [] (y ∷ ys) l all = absurd (omega arith)
  pairs (x ∷ xs) [] l all = absurd (omega arith)
  pairs (x ∷ xs) (y ∷ ys) l all = rw (all zero (omega arith), pairs xs ys (omega arith) (λ i h. all (suc i) (omega arith)))

both_ways : (p q : Bool) → (p ≡ true → q ≡ true) → (q ≡ true → p ≡ true) → p ≡ q
both_ways true q there back = sym (there refl)
both_ways false true there back = back refl
both_ways false false there back = refl

-- so vectors that passed are equal if their lists are
pub lists_equal : (a b : Vector) → Sound a → Sound b → (pointwise eqb a.indexes b.indexes && pointwise eq a.values b.values) ≡ same_entries a b
lists_equal a b sa sb = both_ways _ (same_entries a b) there back
  where
    there : (pointwise eqb a.indexes b.indexes && pointwise eq a.values b.values) ≡ true → same_entries a b ≡ true
    there h =
        let t = and_true (pointwise eqb a.indexes b.indexes) (pointwise eq a.values b.values) h in
        same_entries_lem a b ((bytes_decides a.indexes b.indexes).0 t.0)
        (λ i l. pair_at eq nan a.values b.values t.1 i (omega (arith, sa.even)))

    back : same_entries a b ≡ true → (pointwise eqb a.indexes b.indexes && pointwise eq a.values b.values) ≡ true
    back same =
        rw (
          (bytes_decides a.indexes b.indexes).1 (same_indexes a b same),
          pairs eq nan a.values b.values (omega (arith, sa.even, sb.even, (both a b same).0)) (λ i l. same_values a b same i (omega (arith, sa.even))),
        )
