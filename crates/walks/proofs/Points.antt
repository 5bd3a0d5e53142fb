-- Where rising indexes come to a place: what the library's search by halving asks of them, and what it tells. Assumes nothing.
use Rattle.std.proofs.Common.{ℕ, ◌≤◌, ◌≡◌, true, false, ltb, List, length, ⊎_elim, eq-or-lt_of_le, ltb-true, ltb-false, arith}
use Rattle.std.specs.List.Sorted.{IsPartitionedBy, IsPartitionPoint}
use Rattle.std.proofs.lemmas.List.Sorted.{IsNonDecreasingBy-from_default, IsPartitionedBy-ltb}
use Rattle.sparse.specs.Sound.{Rising, Split}

module _ (is : List ℕ) (k : ℕ) where
  pub parted : Rising is → IsPartitionedBy (λ i. ltb i k) is
  parted up =
      IsPartitionedBy-ltb (λ x. x) is k
      (IsNonDecreasingBy-from_default (λ x. x) is 0
      (λ i j le lt. ⊎_elim (λ e. rw e (omega arith)) (λ l. omega (arith, up i j l lt)) (eq-or-lt_of_le le)))

  pub split_at : (p : ℕ) → p ≤ length is → IsPartitionPoint (λ i. ltb i k ≡ true) (λ i. ltb i k ≡ false) is p → Split is p k
  split_at p within h =
      record {
        within = within;
        low = λ j l. ltb-true _ k (h.0 j 0 (omega arith) l);
        high = λ j l b. ltb-false _ k (h.1 j 0 l b);
      }
