-- What a vector holds at a place, by where its indexes are split. Assumes nothing.
use Rattle.std.proofs.Common.{◌≡◌, ℕ, zero, suc, ◌+◌, ◌<◌, ◌≤◌, List, [], ◌∷◌, length, get_or, refl, ⊎_elim, zero-le, eq-or-lt_of_le, arith, eq-eqb, ne_eqb}
use lib.Ieee.{Float, nan}
use Rattle.places.proofs.Below.{le_or_lt}
use Rattle.sparse.specs.Cells.{look}
use Rattle.sparse.specs.Sound.{Rising, Split}
use Rattle.sparse.specs.declared.Cell.TheVariants.{Empty, Full}

-- a place that no index names is empty
pub look_none : (is : List ℕ) (vs : List Float) (k : ℕ) → ((j : ℕ) → j < length is → get_or is j 0 ≡ k → ⊥) → look is vs k ≡ Empty
unfolding look
look_none [] vs k all = refl
look_none (i ∷ is) [] k all = refl
look_none (i ∷ is) (v ∷ vs) k all =
    rw (ne_eqb i k (all zero (omega arith))) (look_none is vs k (λ j h. all (suc j) (omega arith)))

-- the place that the index at p names, and none before it, is full
pub look_full : (is : List ℕ) (vs : List Float) (p k : ℕ) → length is ≡ length vs → p < length is → get_or is p 0 ≡ k
    → ((j : ℕ) → j < p → get_or is j 0 ≡ k → ⊥) → look is vs k ≡ Full (get_or vs p nan)
unfolding look
look_full [] vs p k e h hit all = absurd (omega arith)
look_full (i ∷ is) [] p k e h hit all = absurd (omega arith)
look_full (i ∷ is) (v ∷ vs) zero k e h hit all = rw (eq-eqb i k hit)
look_full (i ∷ is) (v ∷ vs) (suc p) k e h hit all =
    rw (ne_eqb i k (all zero (omega arith)))
    (look_full is vs p k (omega arith) (omega arith) hit (λ j l. all (suc j) (omega arith)))

-- where a list is split at its end, all from there on is empty
pub look_end : (is : List ℕ) (vs : List Float) (p k i : ℕ) → Split is p k → length is ≤ p → k ≤ i → look is vs i ≡ Empty
look_end is vs p k i s h lo = look_none is vs i (λ j l e. omega (arith, s.low j (omega arith)))

pub split_start : (is : List ℕ) → Split is 0 0
split_start is = record { within = zero-le; low = λ j h. absurd (omega arith); high = λ j a b. zero-le }

-- a place from which on all indexes lie above
module _ (is : List ℕ) (vs : List Float) (up : Rising is) (p a : ℕ) (s : Split is p a) where
  -- up to the index at p nothing is passed, and all is empty
  module _ (b : ℕ) (le : a ≤ b) (first : p < length is → b ≤ get_or is p 0) where
    pub split_on : Split is p b
    split_on = record {
      within = s.within;
      low = λ j h. omega (arith, s.low j h);
      high = λ j h l.
          ⊎_elim
          (λ e. let g : p < length is = omega arith in rw (← e) (first g))
          (λ g. omega (arith, up p j g l, first (omega arith)))
          (eq-or-lt_of_le h);
    }

    pub look_gap : (i : ℕ) → a ≤ i → i < b → look is vs i ≡ Empty
    look_gap i lo hi =
        look_none is vs i (λ j l e. ⊎_elim (λ h. omega (arith, split_on.high j h l)) (λ h. omega (arith, s.low j h)) (le_or_lt p j))

  -- the index at p is the next place, and it is passed
  module _ (even : length is ≡ length vs) (h : p < length is) (k : ℕ) (hit : get_or is p 0 ≡ k) where
    pub look_met : look is vs k ≡ Full (get_or vs p nan)
    look_met = look_full is vs p k even h hit (λ j l q. omega (arith, s.low j l, s.high p (omega arith) h))

    pub split_met : Split is (p + 1) (suc k)
    split_met = record {
      within = omega arith;
      low = λ j l.
          let most : j ≤ p = omega arith in
          ⊎_elim
          (λ e. rw e (omega arith))
          (λ g. omega (arith, s.low j g, s.high p (omega arith) h))
          (eq-or-lt_of_le most);
      high = λ j a b. omega (arith, up p j (omega arith) b);
    }
