-- Entries that are not the same, and what the first of them tells of two vectors. Assumes nothing.
use Rattle.std.proofs.Common.{◌≡◌, ℕ, ◌+◌, ◌≤◌, ◌<◌, true, false, not, eqb, sym, ◌∙◌, arith, below_more, eq-eqb, ne_eqb, eqb-true, ⊎_elim}
use lib.Ieee.{eq, ne}
use borrow.Author.Tests.{not-false}
use Rattle.places.proofs.Below.{and_true, le_or_lt}
use Rattle.places.proofs.First.{found, none, most, some_first, none_first}
use Rattle.sparse.specs.Vectors.{Vector, size}
use Rattle.sparse_orders.specs.Loops.{first_other}
use Rattle.sparse_orders.specs.Orders.{index_at, value_at, same_entry, same_entries}

-- the first n entries are the same
abbrev pub SameFirst : Vector → Vector → ℕ → Type 0
SameFirst a b n = (k : ℕ) → k < n → not (same_entry a b k) ≡ false

module _ (a b : Vector) where
  -- ---- the first entries that are not the same

  -- where the indexes are equal the values tell
  values_tell : (i : ℕ) → index_at a i ≡ index_at b i → not (same_entry a b i) ≡ ne (value_at a i) (value_at b i)
  unfolding ne
  values_tell i e = rw (eq-eqb (index_at a i) (index_at b i) e)

  -- entries that are the same have equal indexes, and values that are equal
  pub same_entry_lem : (i : ℕ) → not (same_entry a b i) ≡ false → (index_at a i ≡ index_at b i) × (eq (value_at a i) (value_at b i) ≡ true)
  same_entry_lem i h =
      let t = and_true (eqb (index_at a i) (index_at b i)) (eq (value_at a i) (value_at b i)) (not-false (same_entry a b i) h) in
      (eqb-true (index_at a i) (index_at b i) t.0, t.1)

  pub one_more : (i : ℕ) → SameFirst a b i → index_at a i ≡ index_at b i → ne (value_at a i) (value_at b i) ≡ false → SameFirst a b (i + 1)
  one_more i all e same = below_more _ i all (values_tell i e ∙ same)

  first_at : (n i : ℕ) → SameFirst a b i → i < n → not (same_entry a b i) ≡ true → i ≡ first_other a b n
  first_at n i all h other = sym (found (λ k. not (same_entry a b k)) n 0 i (λ k l m. all k m) other (omega arith) (omega arith))

  pub other_index : (n i : ℕ) → SameFirst a b i → i < n → (index_at a i ≡ index_at b i → ⊥) → i ≡ first_other a b n
  other_index n i all h other = first_at n i all h (rw (ne_eqb (index_at a i) (index_at b i) other))

  pub other_value : (n i : ℕ) → SameFirst a b i → i < n → index_at a i ≡ index_at b i → ne (value_at a i) (value_at b i) ≡ true → i ≡ first_other a b n
  other_value n i all h e other = first_at n i all h (values_tell i e ∙ other)

  pub all_same : (n : ℕ) → SameFirst a b n → n ≡ first_other a b n
  all_same n all = omega (arith, none (λ k. not (same_entry a b k)) n 0 (λ k l m. all k (omega arith)))

  -- ---- equality

  pub none_other : size a ≡ size b → size a ≤ first_other a b (size a) → same_entries a b ≡ true
  none_other e h = rw (eq-eqb (size a) (size b) e, none_first (λ i. not (same_entry a b i)) (size a) h)

  pub some_other : size a ≡ size b → first_other a b (size a) < size a → same_entries a b ≡ false
  some_other e h = rw (eq-eqb (size a) (size b) e, some_first (λ i. not (same_entry a b i)) (size a) h)

  -- so vectors of as many entries are equal if no entry is another
  pub others_tell : size a ≡ size b → eqb (first_other a b (size a)) (size a) ≡ same_entries a b
  others_tell e =
      ⊎_elim
      (λ h. eq-eqb (first_other a b (size a)) (size a) (omega (arith, most (λ i. not (same_entry a b i)) (size a) 0)) ∙ sym (none_other e h))
      (λ h. ne_eqb (first_other a b (size a)) (size a) (λ q. omega arith) ∙ sym (some_other e h))
      (le_or_lt (size a) (first_other a b (size a)))
