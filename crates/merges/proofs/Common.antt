-- The walk of a product, which ends with the shorter reach: its turns are the places up to the smaller of the two last indexes, and past
-- them one vector is empty. Assumes nothing.
use Rattle.std.proofs.Common.{◌≡◌, ℕ, suc, ◌+◌, ◌-◌, ◌≤◌, ◌<◌, min, List, length, get_or, ◌⊎◌, inl, inr, ⊎_elim, refl, ap, ◌∙◌, eq-or-lt_of_le, eq-eqb, ne_eqb, arith}
use Rattle.std.specs.Float.{Float}
use mathlib.Core.Bool.{or-true}
use Rattle.places.proofs.Below.{le_or_lt}
use Rattle.sparse.specs.Vectors.{Vector, seen, size, at}
use Rattle.sparse.specs.declared.SVectBorrowed.{SVectBorrowed}
use Rattle.sparse.specs.Sound.{Split, Sound}
use Rattle.sparse.specs.declared.Cell.{Cell}
use Rattle.sparse.specs.declared.Cell.TheVariants.{Empty, Full}
use Rattle.sparse.proofs.Look.{look_end}
use Rattle.walks.specs.Walk.{walk, Both, Taken, Turned, Put, put_count}
use Rattle.walks.specs.declared.Walk.{Walk}
use Rattle.walks.specs.declared.Turn.{Turn}
use Rattle.walks.proofs.Stores.{put_most, Written, written_empty, written_lengths}
use Rattle.walks.proofs.Turns.{to_left, to_right}
use Rattle.walks.proofs.Walks.{Going, standing, kept_up, taken_next}
use Rattle.steps.specs.Places.{multiplied}
use Rattle.steps.specs.Turns.{Steady, Stepped}
use Rattle.steps.specs.declared.Step.{Step}
use Rattle.merges.specs.Algebra.{joins, common_end, common_turns}
use Rattle.merges.specs.Loops.{Ready, ReadyFor, Fills, FillsBy, Passed}
use Rattle.merges.specs.declared.Op.TheVariants.{Mul}
use Rattle.merges.proofs.Turning.{one_ended}
use Rattle.merges.proofs.Made.{join_at, Made, made_start, made_more, made_merged}

-- ---- the place after the smaller last index

common_is : (a b : Vector) → 1 ≤ size a → 1 ≤ size b
    → common_end a b ≡ suc (min (get_or a.indexes (size a - 1) 0) (get_or b.indexes (size b - 1) 0))
common_is a b ha hb = rw (ne_eqb (size a) 0 (λ e. omega arith), ne_eqb (size b) 0 (λ e. omega arith))

common_none : (a b : Vector) → (size a ≡ 0) ⊎ (size b ≡ 0) → common_end a b ≡ 0
common_none a b none = ⊎_elim (λ e. rw (eq-eqb (size a) 0 e)) (λ e. rw (eq-eqb (size b) 0 e, or-true)) none

-- one of two vectors has no entry, or both have one
none_or_some : (a b : Vector) → ((size a ≡ 0) ⊎ (size b ≡ 0)) ⊎ ((1 ≤ size a) × (1 ≤ size b))
none_or_some a b =
    ⊎_elim
    (λ h. inl (inl (omega arith)))
    (λ h. ⊎_elim (λ g. inl (inr (omega arith))) (λ g. inr (h, g)) (le_or_lt (size b) 0))
    (le_or_lt (size a) 0)

-- the last index is the largest
to_last : {v : Vector} → Sound v → (p : ℕ) → p < size v → get_or v.indexes p 0 ≤ get_or v.indexes (size v - 1) 0
to_last {v} s p h =
    let at_most : p ≤ size v - 1 = omega arith in
    ⊎_elim (λ e. rw e (omega arith)) (λ l. omega (arith, s.rising p (size v - 1) l (omega arith))) (eq-or-lt_of_le at_most)

module _ {a b : Vector} (sa : Sound a) (sb : Sound b) where
  -- a place that both have not passed is before it
  common_more : {p q m : ℕ} → p < size a → q < size b → m ≤ get_or a.indexes p 0 → m ≤ get_or b.indexes q 0 → m < common_end a b
  common_more {p} {q} ha hb la lb =
      omega (arith, common_is a b (omega arith) (omega arith), to_last sa p ha, to_last sb q hb)

  -- where one list has ended it is not after the walk
  common_reach : {p q k : ℕ} → Split a.indexes p k → Split b.indexes q k → (size a ≤ p) ⊎ (size b ≤ q) → common_end a b ≤ k
  common_reach {p} {q} {k} l r ended =
      ⊎_elim
      (λ none. omega (arith, common_none a b none))
      (λ some.
      let e = common_is a b some.0 some.1 in
      ⊎_elim (λ u. omega (arith, e, l.low (size a - 1) (omega arith))) (λ u. omega (arith, e, r.low (size b - 1) (omega arith))) ended)
      (none_or_some a b)

  common_most : common_end a b ≤ a.dims
  common_most =
      ⊎_elim
      (λ none. omega (arith, common_none a b none))
      (λ some. omega (arith, common_is a b some.0 some.1, sa.below (size a - 1) (omega arith)))
      (none_or_some a b)

-- ---- one side empty, nothing written

right_empty : (x : Cell) → multiplied x Empty ≡ Empty
right_empty Empty = refl
right_empty (Full v) = refl

-- a product is stored only where an entry of this side is passed
few_left : (v : Vector) {p m p' n : ℕ} {x : Cell} (y : Cell) → Taken v.indexes v.values p m x p' → n ≤ p
    → put_count (multiplied x y) n ≤ p'
few_left v {n = n} {x} y t h =
    ⊎_elim (λ e. omega (arith, e.3, put_most (multiplied x y) n)) (λ e. rw e.1 (omega (arith, e.2))) t

few_right : (v : Vector) {q m q' n : ℕ} (x : Cell) {y : Cell} → Taken v.indexes v.values q m y q' → n ≤ q
    → put_count (multiplied x y) n ≤ q'
few_right v {n = n} x {y} t h =
    ⊎_elim (λ e. omega (arith, e.3, put_most (multiplied x y) n)) (λ e. rw (e.1, right_empty x) (omega (arith, e.2))) t

-- ---- the loop
pub record Multiplying (a b : Vector) (oi : List ℕ) (ov : List Float) (oi' : List ℕ) (ov' : List Float) (p q n turns : ℕ) : Type 0 where
  pub few : n ≤ p
  pub few' : n ≤ q
  pub steps : turns ≤ p + q
  pub going : Going a b (common_end a b) (Made Mul 0 a b oi ov oi' ov' n turns) p q

pub multiplying_start : {a b : Vector} {oi : List ℕ} {ov : List Float} → Multiplying a b oi ov oi ov 0 0 0 0
multiplying_start {a} {b} = record { few = omega arith; few' = omega arith; steps = omega arith; going = made_start Mul a b }

module _ {a b : Vector} {oi : List ℕ} {ov : List Float} (r : Ready a b (min (size a) (size b)) oi ov)
    {oi' : List ℕ} {ov' : List Float} {p q n turns : ℕ} (m : Multiplying a b oi ov oi' ov' p q n turns) where
  fits : n ≤ min (size a) (size b)
  fits = omega (arith, m.few, m.few', m.going.walk.left.within, m.going.walk.right.within)

  pub lengths : (length oi' ≡ length oi) × (length ov' ≡ length ov)
  lengths = written_lengths m.going.holds.wrote (omega (arith, fits, r.room)) (omega (arith, fits, r.room'))

  pub multiplying_more : p < size a → q < size b → {t : Turn} → Turned a.indexes a.values p b.indexes b.values q t
      → {z : Cell} {n' : ℕ} {oi'' : List ℕ} {ov'' : List Float} → z ≡ multiplied t.x t.y → Put z t.place n oi' ov' n' oi'' ov''
      → Multiplying a b oi ov oi'' ov'' t.p t.q n' (turns + 1)
  multiplying_more ha hb {t} u {z} e put =
      let count = put.count ∙ ap (λ (y : Cell). put_count y n) e in
      record {
        few = omega (arith, count, few_left a t.y u.left m.few);
        few' = omega (arith, count, few_right b t.x u.right m.few');
        steps = omega (arith, m.steps, u.some);
        going = made_more r.left r.right m.going u
            (common_more r.left r.right ha hb
            (taken_next r.left m.going.walk.left u.left ha) (taken_next r.right m.going.walk.right u.right hb))
            (omega (arith, m.few, m.few', r.room)) (omega (arith, m.few, m.few', r.room')) e put;
      }

-- ---- many turns to places that one side alone has
module _ {a b : Vector} {oi : List ℕ} {ov : List Float} (r : Ready a b (min (size a) (size b)) oi ov) {oi' : List ℕ} {ov' : List Float} {n : ℕ} where
  left_alone : {p q turns : ℕ} → Multiplying a b oi ov oi' ov' p q n turns → p < size a → q < size b → get_or a.indexes p 0 < get_or b.indexes q 0
      → Multiplying a b oi ov oi' ov' (p + 1) q n (turns + 1)
  left_alone m ha hb less = multiplying_more r m ha hb (to_left ha (λ g. less)) refl (record { count = refl; indexes = refl; values = refl })

  right_alone : {p q turns : ℕ} → Multiplying a b oi ov oi' ov' p q n turns → p < size a → q < size b → get_or b.indexes q 0 < get_or a.indexes p 0
      → Multiplying a b oi ov oi' ov' p (q + 1) n (turns + 1)
  right_alone m ha hb less = multiplying_more r m ha hb (to_right hb (λ g. less)) refl (record { count = refl; indexes = refl; values = refl })

  pub multiplying_left : {p q turns : ℕ} → Multiplying a b oi ov oi' ov' p q n turns → (k : ℕ) → Passed a.indexes p b.indexes q k
      → Multiplying a b oi ov oi' ov' (p + k) q n (turns + k)
  multiplying_left {p} {q} {turns} m k h =
      let e : p + 0 ≡ p = omega arith in
      let f : turns + 0 ≡ turns = omega arith in
      kept_up (λ i. Multiplying a b oi ov oi' ov' (p + i) q n (turns + i)) 0 k (omega arith)
      (λ i lo hi g.
      let l = h.1 i hi in
      let e' : p + suc i ≡ p + i + 1 = omega arith in
      let f' : turns + suc i ≡ turns + i + 1 = omega arith in
      rw (e', f') (left_alone g (omega (arith, h.0)) l.0 l.1))
      (rw (e, f) m)

  pub multiplying_right : {p q turns : ℕ} → Multiplying a b oi ov oi' ov' p q n turns → (k : ℕ) → Passed b.indexes q a.indexes p k
      → Multiplying a b oi ov oi' ov' p (q + k) n (turns + k)
  multiplying_right {p} {q} {turns} m k h =
      let e : q + 0 ≡ q = omega arith in
      let f : turns + 0 ≡ turns = omega arith in
      kept_up (λ i. Multiplying a b oi ov oi' ov' p (q + i) n (turns + i)) 0 k (omega arith)
      (λ i lo hi g.
      let l = h.1 i hi in
      let e' : q + suc i ≡ q + i + 1 = omega arith in
      let f' : turns + suc i ≡ turns + i + 1 = omega arith in
      rw (e', f') (right_alone g l.0 (omega (arith, h.0)) l.1))
      (rw (e, f) m)

-- ---- the end
module _ {a b : Vector} {oi : List ℕ} {ov : List Float} (r : Ready a b (min (size a) (size b)) oi ov)
    {oi' : List ℕ} {ov' : List Float} {p q n turns : ℕ} (m : Multiplying a b oi ov oi' ov' p q n turns) where
  -- past the end of one nothing is written any more
  rest : (size a ≤ p) ⊎ (size b ≤ q) → (i : ℕ) → m.going.front ≤ i → join_at Mul a b i ≡ Empty
  rest ended i le =
      ⊎_elim
      (λ h. rw (look_end a.indexes a.values p m.going.front i m.going.walk.left h le))
      (λ h. rw (look_end b.indexes b.values q m.going.front i m.going.walk.right h le) (right_empty (at a i)))
      ended

  pub multiplying_end : (size a ≤ p) ⊎ (size b ≤ q) → Fills (joins Mul a b) (common_turns a b) oi ov (record { len = n; turns = turns }) oi' ov'
  multiplying_end ended =
      let g = m.going in
      let same : g.front ≡ common_end a b = omega (arith, g.inside, common_reach r.left r.right g.walk.left g.walk.right ended) in
      let empty = rest ended in
      let w =
      kept_up (Written (join_at Mul a b) oi ov oi' ov' n) g.front a.dims (omega (arith, g.inside, common_most r.left r.right))
      (λ i lo hi w. written_empty w (empty i lo))
      g.holds.wrote in
      made_merged Mul a b (common_end a b) w (rw (← same) (omega (arith, g.holds.turned)))

-- ---- a walk over a and b, and what is made of the places below it
pub record Multiplied (a b : SVectBorrowed) (oi : List ℕ) (ov : List Float) (oi' : List ℕ) (ov' : List Float) (w : Walk) (n turns : ℕ)
    : Type 0 where
  pub here : w ≡ walk a w.p b w.q
  pub made : Multiplying (seen a) (seen b) oi ov oi' ov' w.p w.q n turns

pub multiplied_start : {a b : SVectBorrowed} {oi : List ℕ} {ov : List Float} → Multiplied a b oi ov oi ov (walk a 0 b 0) 0 0
multiplied_start = record { here = refl; made = multiplying_start }

module _ {a b : SVectBorrowed} {oi : List ℕ} {ov : List Float} (r : ReadyFor Mul (seen a) (seen b) oi ov)
    {oi' : List ℕ} {ov' : List Float} {w : Walk} {n turns : ℕ} (g : Multiplied a b oi ov oi' ov' w n turns) where
  pub multiplied_steady : Both w → Steady w n oi' ov'
  multiplied_steady both =
      let m = g.made in
      let e = lengths r m in
      let h : Both (walk a w.p b w.q) = rw g.here at both in
      rw g.here
      (record {
        standing = standing r.left r.right m.going (omega (arith, h.0, h.1));
        room = omega (arith, m.few, m.few', r.room, e.0, h.0, h.1);
        room' = omega (arith, m.few, m.few', r.room', e.1, h.0, h.1);
      })

  -- a turn, and what is passed of either side
  pub multiplied_more : Both w → {s : Step} {oi'' : List ℕ} {ov'' : List Float} → Stepped multiplied w n oi' ov' s oi'' ov''
      → {i j : ℕ} → Passed a.indexes.now s.p b.indexes.now s.q i → Passed b.indexes.now s.q a.indexes.now (s.p + i) j
      → Multiplied a b oi ov oi'' ov'' (walk w.a (s.p + i) w.b (s.q + j)) s.n (turns + (1 + i + j))
  multiplied_more both {s} {oi''} {ov''} t' {i} {j} left right =
      let h : Both (walk a w.p b w.q) = rw g.here at both in
      let t : Stepped multiplied (walk a w.p b w.q) n oi' ov' s oi'' ov'' = rw g.here at t' in
      let e : turns + (1 + i + j) ≡ turns + 1 + i + j = omega arith in
      record {
        here = ap (λ (v : Walk). walk v.a (s.p + i) v.b (s.q + j)) g.here;
        made = rw e
            (multiplying_right r
            (multiplying_left r
            (rw (t.left, t.right) (multiplying_more r g.made h.0 h.1 t.turned refl t.put))
            i left)
            j right);
      }

  pub multiplied_end : (Both w → ⊥) → FillsBy Mul (seen a) (seen b) oi ov (record { len = n; turns = turns }) oi' ov'
  multiplied_end not_both =
      let ended : (size (seen a) ≤ w.p) ⊎ (size (seen b) ≤ w.q) = one_ended (walk a w.p b w.q) (rw g.here at not_both) in
      multiplying_end r g.made ended
