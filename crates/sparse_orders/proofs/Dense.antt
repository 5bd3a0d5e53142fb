-- The order of two valid vectors of equal dims is that of the dense vectors: at the first entries that are not the same, the lower of their
-- places is the lowest at which the dense vectors differ. Assumes nothing.
use Rattle.std.proofs.Common.{◌≡◌, ℕ, suc, min, ◌≤◌, ◌<◌, Bool, true, false, not, cond, eqb, ◌⊎◌, Option, Some, None, Result, Ok, refl, sym, ap, ◌∙◌, ⊎_elim, true≢false, eq-or-lt_of_le, arith, lt-ltb, le-ltb, eq-eqb, ne_eqb, eqb-true}
use native.Mathlib.Nat.{le-min, min-le_left, min-le_right}
use lib.Ieee.{Float, of_bits, eq, lt, is_nan}
use borrow.Author.Tests.{eqb-false, not-true}
use Rattle.std.specs.declared.cmp.Ordering.{Ordering}
use Rattle.std.specs.declared.cmp.Ordering.TheVariants.{Less, Equal, Greater}
use Rattle.places.specs.Search.{first_from}
use Rattle.places.proofs.Below.{le_or_lt}
use Rattle.places.proofs.First.{before, most, hit}
use Rattle.refusal.specs.Answers.{Valid}
use Rattle.refusal.specs.declared.Refusal.{Refusal}
use Rattle.sparse.specs.Calls.{checked_of}
use Rattle.sparse.specs.Cells.{zero32}
use Rattle.sparse.specs.Sound.{Split, Sound}
use Rattle.sparse.specs.Vectors.{Vector, size}
use Rattle.sparse.proofs.Checks.{sound}
use Rattle.sparse.proofs.Look.{look_none, look_full, look_gap, look_met}
use Rattle.sparse_orders.specs.Calls.{Compares}
use Rattle.sparse_orders.specs.Dense.{value_or0, dense, dense_order}
use Rattle.sparse_orders.specs.Loops.{first_other}
use Rattle.sparse_orders.specs.Orders.{index_at, value_at, same_entry, same_entries, compared, alone, entries_decide, decided, order_by}
use Rattle.sparse_orders.proofs.Apart.{dense_apart, dense_equal}
use Rattle.sparse_orders.proofs.Floats.{eq_turned, nan_apart}
use Rattle.sparse_orders.proofs.Mirror.{valid_answer}
use Rattle.sparse_orders.proofs.Others.{SameFirst, same_entry_lem, all_same, none_other}

-- ---- what stands at the place k, which the entries before p lie below

-- x is the value of the entry p, whose place is k; or that entry lies behind k, or there is none, and x is the absent value
data Here (v : Vector) (p k : ℕ) : Float → Type 0 where
  met : p < size v → index_at v p ≡ k → Here v p k (value_at v p)
  past : (p < size v → k < index_at v p) → Here v p k zero32

module _ (v : Vector) (s : Sound v) (p k : ℕ) (within : p ≤ size v) (low : (q : ℕ) → q < p → index_at v q < k) where
  cut : (p < size v → k ≤ index_at v p) → Split v.indexes p k
  cut first = record {
    within = within;
    low = low;
    high = λ j h l.
        ⊎_elim
        (λ e. let g : p < size v = omega arith in rw (← e) (first g))
        (λ g. omega (arith, s.rising p j g l, first (omega arith)))
        (eq-or-lt_of_le h);
  }

  here_cut : {x : Float} → Here v p k x → Split v.indexes p k
  here_cut (met h e) = cut (λ l. omega arith)
  here_cut (past h) = cut (λ l. omega (arith, h l))

  here_dense : {x : Float} → Here v p k x → dense v k ≡ x
  here_dense (met h e) = ap value_or0 (look_met v.indexes v.values s.rising p k (here_cut (met h e)) s.even h k e)
  here_dense (past h) =
      ap value_or0 (look_gap v.indexes v.values s.rising p k (here_cut (past h)) (suc k) (omega arith) h k (omega arith) (omega arith))

-- ---- values

-- of values that are not equal, one against the zero of a place that the other side does not have
alone_compared : (x y : Float) → eq x y ≡ false → alone x y ≡ compared x y
alone_compared x y e = rw e

compared_equal : (x y : Float) → compared x y ≡ Some Equal → eq x y ≡ true
compared_equal x y h = go (lt x y) (lt y x) (eq x y) h
  where
    go : (p q e : Bool) → cond p (Some Less) (cond q (Some Greater) (cond e (Some Equal) None)) ≡ Some Equal → e ≡ true
    go true q e h = absurd cc
    go false true e h = absurd cc
    go false false true h = refl
    go false false false h = absurd cc

-- ---- two vectors of which the first p entries are the same

zero_same : eq zero32 zero32 ≡ true
unfolding eq of_bits
zero_same = refl

module _ (a b : Vector) (sa : Sound a) (sb : Sound b) (p : ℕ) (same : SameFirst a b p) (pa : p ≤ size a) (pb : p ≤ size b) where
  entry : (q : ℕ) → q < p → (index_at a q ≡ index_at b q) × (eq (value_at a q) (value_at b q) ≡ true)
  entry q h = same_entry_lem a b q (same q h)

  -- an entry before p is at the place j of both, or none is at that of either
  alike : (k : ℕ) → Split a.indexes p k → Split b.indexes p k → (j : ℕ) → j < k → eq (dense a j) (dense b j) ≡ true
  alike k ca cb j h =
      let t : ℕ → Bool = λ q. eqb (index_at a q) j in
      let i = first_from t p 0 in
      ⊎_elim
      (λ l.
      let other : (q : ℕ) → q < p → index_at a q ≡ j → ⊥ = λ q m. eqb-false (index_at a q) j (before t p 0 q (omega arith) (omega arith)) in
      let ea = look_none a.indexes a.values j (λ q m e. ⊎_elim (λ g. omega (arith, ca.high q g m)) (λ g. other q g e) (le_or_lt p q)) in
      let eb =
      look_none b.indexes b.values j
      (λ q m e. ⊎_elim (λ g. omega (arith, cb.high q g m)) (λ g. other q g ((entry q g).0 ∙ e)) (le_or_lt p q)) in
      rw (ea, eb) zero_same)
      (λ l.
      let met_a : index_at a i ≡ j = eqb-true (index_at a i) j (hit t p 0 (omega arith)) in
      let met_b : index_at b i ≡ j = sym (entry i l).0 ∙ met_a in
      let ea = look_full a.indexes a.values i j sa.even (omega arith) met_a (λ q m e. omega (arith, sa.rising q i m (omega arith))) in
      let eb = look_full b.indexes b.values i j sb.even (omega arith) met_b (λ q m e. omega (arith, sb.rising q i m (omega arith))) in
      rw (ea, eb) (entry i l).1)
      (le_or_lt p i)

  -- so where the entries before p lie below k and what stands at k differs, that decides
  module _ (d k : ℕ) (low : (q : ℕ) → q < p → index_at a q < k) where
    low' : (q : ℕ) → q < p → index_at b q < k
    low' q h = omega (arith, (entry q h).0, low q h)

    decides : k < d → {x y : Float} → Here a p k x → Here b p k y → eq x y ≡ false → compared x y ≡ dense_order d (dense a) (dense b)
    decides h {x} {y} ha hb other =
        let ea = here_dense a sa p k pa low ha in
        let eb = here_dense b sb p k pb low' hb in
        sym
        (dense_apart d (dense a) (dense b) k (alike k (here_cut a sa p k pa low ha) (here_cut b sb p k pb low' hb)) h (rw (ea, eb) other)
        ∙ rw (ea, eb))

-- ---- what decides

module _ (a b : Vector) (sa : Sound a) (sb : Sound b) (equal : a.dims ≡ b.dims) where
  abbrev owed : Option Ordering
  owed = dense_order a.dims (dense a) (dense b)

  -- both lists have ended; or values decide that are not equal, and that is the dense order
  data Decision (p : ℕ) : Option Ordering → Type 0 where
    ended : size a ≤ p → size b ≤ p → Decision p (Some Equal)
    by : (x y : Float) → eq x y ≡ false → compared x y ≡ owed → Decision p (compared x y)

  module _ (p : ℕ) (same : SameFirst a b p) (pa : p ≤ size a) (pb : p ≤ size b) where
    -- the entry p of the left vector, or of the right, stands lowest
    by_left : (h : p < size a) {y : Float} → Here b p (index_at a p) y → eq (value_at a p) y ≡ false → Decision p (compared (value_at a p) y)
    by_left h {y} hb e =
        by (value_at a p) y e
        (decides a b sa sb p same pa pb a.dims (index_at a p) (λ q l. sa.rising q p l h) (sa.below p h) (met h refl) hb e)

    by_right : (h : p < size b) {x : Float} → Here a p (index_at b p) x → eq x (value_at b p) ≡ false → Decision p (compared x (value_at b p))
    by_right h {x} ha e =
        by x (value_at b p) e
        (decides a b sa sb p same pa pb a.dims (index_at b p)
        (λ q l. omega (arith, (entry a b sa sb p same pa pb q l).0, sb.rising q p l h))
        (omega (arith, sb.below p h)) ha (met h refl) e)

    -- one side has no value there: the other's is no zero, so that `alone` compares as any two values do
    left_zero : (h : p < size a) → eq (value_at a p) zero32 ≡ false
    left_zero h = sa.nonzero p h

    right_zero : (h : p < size b) → eq zero32 (value_at b p) ≡ false
    right_zero h = eq_turned zero32 (value_at b p) ∙ sb.nonzero p h

    module _ (ha : p < size a) (hb : p < size b) (other : same_entry a b p ≡ false) where
      by_entries : Decision p (entries_decide (index_at a p) (value_at a p) (index_at b p) (value_at b p))
      by_entries =
          ⊎_elim
          (λ h.
          ⊎_elim
          (λ e.
          let t = eq-eqb (index_at a p) (index_at b p) e in
          rw t (by_left ha (met hb (sym e)) (rw t at other)))
          (λ l.
          rw (ne_eqb (index_at a p) (index_at b p) (λ e. omega arith), lt-ltb (index_at a p) (index_at b p) l, alone_compared (value_at a p) zero32 (left_zero ha))
          (by_left ha (past (λ g. l)) (left_zero ha)))
          (eq-or-lt_of_le h))
          (λ l.
          rw (ne_eqb (index_at a p) (index_at b p) (λ e. omega arith), le-ltb (index_at a p) (index_at b p) (omega arith), alone_compared zero32 (value_at b p) (right_zero hb))
          (by_right hb (past (λ g. l)) (right_zero hb)))
          (le_or_lt (index_at a p) (index_at b p))

    decision : (p < size a → p < size b → same_entry a b p ≡ false) → Decision p (decided a b p)
    decision other =
        ⊎_elim
        (λ ea.
        ⊎_elim
        (λ eb. rw (le-ltb p (size a) ea, le-ltb p (size b) eb) (ended ea eb))
        (λ hb. rw (le-ltb p (size a) ea, lt-ltb p (size b) hb) (by_right hb (past (λ h. omega arith)) (right_zero hb)))
        (le_or_lt (size b) p))
        (λ ha.
        ⊎_elim
        (λ eb. rw (lt-ltb p (size a) ha, le-ltb p (size b) eb) (by_left ha (past (λ h. omega arith)) (left_zero ha)))
        (λ hb. rw (lt-ltb p (size a) ha, lt-ltb p (size b) hb) (by_entries ha hb (other ha hb)))
        (le_or_lt (size b) p))
        (le_or_lt (size a) p)

    decision_dense : {o : Option Ordering} → Decision p o → o ≡ owed
    decision_dense (by x y e o) = o
    decision_dense (ended ea eb) =
        let d = a.dims in
        let ca = cut a sa p d pa (λ q l. sa.below q (omega arith)) (λ h. absurd (omega arith)) in
        let cb = cut b sb p d pb (λ q l. omega (arith, sb.below q (omega arith))) (λ h. absurd (omega arith)) in
        sym (dense_equal d (dense a) (dense b) (alike a b sa sb p same pa pb d ca cb))

    -- and only where both have ended they are equal
    decision_equal : {o : Option Ordering} → Decision p o → o ≡ Some Equal → same_entries a b ≡ true
    decision_equal (by x y e o) h = absurd (true≢false (sym (compared_equal x y h) ∙ e))
    decision_equal (ended ea eb) h = none_other a b (omega arith) (omega (arith, all_same a b (size a) (λ k l. same k (omega arith))))

  -- the first entries that are not the same decide
  abbrev first : ℕ
  first = first_other a b (min (size a) (size b))

  abbrev differ : ℕ → Bool
  differ i = not (same_entry a b i)

  first_same : SameFirst a b first
  first_same k h = before differ (min (size a) (size b)) 0 k (omega arith) h

  first_left : first ≤ size a
  first_left = omega (arith, most differ (min (size a) (size b)) 0, min-le_left (size a) (size b))

  first_right : first ≤ size b
  first_right = omega (arith, most differ (min (size a) (size b)) 0, min-le_right (size a) (size b))

  first_decision : Decision first (order_by a b)
  first_decision =
      decision first first_same first_left first_right
      (λ ha hb. not-true (same_entry a b first) (hit differ (min (size a) (size b)) 0 (omega (arith, le-min ha hb))))

  order_dense : order_by a b ≡ owed
  order_dense = decision_dense first first_same first_left first_right first_decision

  pub order_equal : order_by a b ≡ Some Equal → same_entries a b ≡ true
  order_equal = decision_equal first first_same first_left first_right first_decision

-- ---- the calls

-- two valid vectors of equal dims
module _ (a b : Vector) {r : Result (Option Ordering) Refusal} (call : Compares a b r) (va : checked_of a ≡ Valid) (vb : checked_of b ≡ Valid) (equal : a.dims ≡ b.dims) where
  -- the answer is that of the dense vectors, with a NaN and without
  pub dense_answer : r ≡ Ok (dense_order a.dims (dense a) (dense b))
  dense_answer = valid_answer a b call va vb ∙ rw (eq-eqb a.dims b.dims equal) (ap Ok (order_dense a b (sound a va) (sound b vb) equal))

  -- what stands at the lowest place at which they differ decides, whatever stands behind it
  module _ (k : ℕ) (inside : k < a.dims) (all : (j : ℕ) → j < k → eq (dense a j) (dense b j) ≡ true) where
    pub first_decides : eq (dense a k) (dense b k) ≡ false → r ≡ Ok (compared (dense a k) (dense b k))
    first_decides other = dense_answer ∙ ap Ok (dense_apart a.dims (dense a) (dense b) k all inside other)

    -- and where that is a NaN, on either side or on both, there is no order
    pub nan_decides : (is_nan (dense a k) ≡ true) ⊎ (is_nan (dense b k) ≡ true) → r ≡ Ok None
    nan_decides some =
        let n = nan_apart (dense a k) (dense b k) some in
        first_decides n.2 ∙ rw (n.0, n.1, n.2)
