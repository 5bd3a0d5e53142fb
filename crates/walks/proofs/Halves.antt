-- A search for a place in rising indexes that halves the range in which it can be. Assumes nothing.
use Rattle.std.proofs.Common.{ℕ, ◌+◌, ◌-◌, ◌≤◌, ◌<◌, eq-or-lt_of_le, arith, List, ⊎_elim, ◌≡◌, ◌∙◌, length, get_or, take, drop, length-take, length-drop, get_or-take, get_or-drop}
use Rattle.places.proofs.Below.{le_or_lt}
use Rattle.sparse.specs.Sound.{Rising, Split}

-- the entries before `low` have indexes below k, and those from `high` on have not
pub record Range (is : List ℕ) (k low high : ℕ) : Type 0 where
  pub order : low ≤ high
  pub within : high ≤ length is
  pub under : (j : ℕ) → j < low → get_or is j 0 < k
  pub over : (j : ℕ) → high ≤ j → j < length is → k ≤ get_or is j 0

pub whole : (is : List ℕ) (k : ℕ) → Range is k 0 (length is)
whole is k = record { order = omega arith; within = omega arith; under = λ j h. absurd (omega arith); over = λ j h l. absurd (omega arith) }

module _ {is : List ℕ} {k low high : ℕ} (r : Range is k low high) where
  pub none_left : high ≤ low → Split is low k
  none_left h = record { within = omega arith; low = r.under; high = λ j a b. r.over j (omega arith) b }

  module _ (up : Rising is) {m : ℕ} (at_least : low ≤ m) (before : m < high) where
    pub upper : get_or is m 0 < k → Range is k (m + 1) high
    upper h = record {
      order = omega arith;
      within = r.within;
      under = λ j l. ⊎_elim (λ e. let q : j ≡ m = omega arith in rw q h) (λ g. omega (arith, up j m (omega arith) (omega arith))) (eq-or-lt_of_le l);
      over = r.over;
    }

    pub lower : k ≤ get_or is m 0 → Range is k low m
    lower h = record {
      order = at_least;
      within = omega arith;
      under = r.under;
      over = λ j l b. ⊎_elim (λ e. rw (← e) h) (λ g. omega (arith, up m j g b)) (eq-or-lt_of_le l);
    }

  -- ---- a search in the range alone
  abbrev between : List ℕ
  between = take (high - low) (drop low is)

  between_length : length between ≡ high - low
  between_length = simp (length-take, length-drop) (omega (arith, r.within))

  between_read : (j : ℕ) → j < high - low → get_or between j 0 ≡ get_or is (low + j) 0
  between_read j h = get_or-take (high - low) (drop low is) j 0 h ∙ get_or-drop low is j 0

  pub between_rising : Rising is → Rising between
  between_rising up i j h l =
      let n = between_length in
      let w = r.within in
      rw (between_read i (omega arith), between_read j (omega arith)) (up (low + i) (low + j) (omega arith) (omega arith))

  -- what it finds is found in all
  pub found : {p : ℕ} → Split between p k → Split is (low + p) k
  found {p} s =
      let n = between_length in
      let w = r.within in
      let o = r.order in
      let f = s.within in
      record {
        within = omega arith;
        low = λ j h.
            ⊎_elim
            (λ g.
            let e : low + (j - low) ≡ j = omega arith in
            rw e at (rw (between_read (j - low) (omega arith)) at (s.low (j - low) (omega arith))))
            (r.under j)
            (le_or_lt low j);
        high = λ j h l.
            ⊎_elim
            (λ g. r.over j g l)
            (λ g.
            let e : low + (j - low) ≡ j = omega arith in
            rw e at (rw (between_read (j - low) (omega arith)) at (s.high (j - low) (omega arith) (omega arith))))
            (le_or_lt high j);
      }
