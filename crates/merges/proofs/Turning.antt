-- A merge that takes runs of turns. Assumes nothing.
use Rattle.std.proofs.Common.{◌≡◌, ℕ, suc, ◌+◌, ◌-◌, ◌≤◌, List, ◌⊎◌, inl, inr, ⊎_elim, refl, ap, length, arith}
use Rattle.std.specs.Float.{Float}
use Rattle.places.proofs.Below.{le_or_lt}
use Rattle.sparse.specs.Vectors.{Vector, seen, size}
use Rattle.sparse.specs.declared.Cell.{Cell}
use Rattle.sparse.specs.declared.SVectBorrowed.{SVectBorrowed}
use Rattle.sparse.proofs.Checks.{size_most}
use Rattle.walks.specs.Walk.{walk, Both}
use Rattle.walks.specs.declared.Walk.{Walk}
use Rattle.steps.specs.Turns.{sum_of, Stepped, Chain, none, more}
use Rattle.steps.specs.declared.Sign.{Sign}
use Rattle.steps.specs.declared.Sign.TheVariants.{Plus, Minus}
use Rattle.steps.specs.declared.Step.{Step}
use Rattle.merge_runs.specs.Runs.{Running, Ran, longer, both_rests}
use Rattle.merge_runs.specs.declared.Block.{Block}
use Rattle.merges.specs.Algebra.{joined, union_turns, turns_of, room_for}
use Rattle.merges.specs.Loops.{ReadyFor, FillsBy, op_of}
use Rattle.merges.specs.declared.Op.TheVariants.{Add}
use Rattle.merges.proofs.Made.{Merging, merging_start, merging_more, merging_fits, merging_fills, lengths, fits}

join_is : (sign : Sign) (x y : Cell) → sum_of sign x y ≡ joined (op_of sign) x y
join_is Minus x y = refl
join_is Plus x y = refl

turns_is : (sign : Sign) (a b : Vector) → turns_of (op_of sign) a b ≡ union_turns a b
turns_is Minus a b = refl
turns_is Plus a b = refl

-- where not both sides of a walk have an entry left, one has ended
pub one_ended : (w : Walk) → (Both w → ⊥) → (size (seen w.a) ≤ w.p) ⊎ (size (seen w.b) ≤ w.q)
one_ended w not_both =
    ⊎_elim inl
    (λ l. ⊎_elim inr (λ r. absurd (not_both (l, r))) (le_or_lt (size (seen w.b)) w.q))
    (le_or_lt (size (seen w.a)) w.p)

-- a walk over a and b, and what is made of the places below it
pub record Walked (sign : Sign) (a b : SVectBorrowed) (oi : List ℕ) (ov : List Float) (oi' : List ℕ) (ov' : List Float) (w : Walk)
    (n turns : ℕ) : Type 0 where
  pub here : w ≡ walk a w.p b w.q
  pub made : Merging (op_of sign) 0 (seen a) (seen b) oi ov oi' ov' w.p w.q n turns

pub walked_start : {sign : Sign} {a b : SVectBorrowed} {oi : List ℕ} {ov : List Float} → Walked sign a b oi ov oi ov (walk a 0 b 0) 0 0
walked_start = record { here = refl; made = merging_start }

module _ (sign : Sign) {a b : SVectBorrowed} {oi : List ℕ} {ov : List Float} (r : ReadyFor Add (seen a) (seen b) oi ov) where
  -- one turn more of a merge, and many
  merging_step : {oi' : List ℕ} {ov' : List Float} {p q n turns : ℕ} → Merging (op_of sign) 0 (seen a) (seen b) oi ov oi' ov' p q n turns
      → {t : Step} {oi'' : List ℕ} {ov'' : List Float} → Stepped (sum_of sign) (walk a p b q) n oi' ov' t oi'' ov''
      → Merging (op_of sign) 0 (seen a) (seen b) oi ov oi'' ov'' t.p t.q t.n (turns + 1)
  merging_step m s =
      let room = fits r m s.more in
      rw (s.left, s.right)
      (merging_more r.left r.right m r.same s.turned room.0 room.1 (join_is sign s.turn.x s.turn.y) s.put)

  merging_chain : {k : ℕ} {s : Step} {oi' : List ℕ} {ov' : List Float} {t : Step} {oi'' : List ℕ} {ov'' : List Float} {turns : ℕ}
      → Merging (op_of sign) 0 (seen a) (seen b) oi ov oi' ov' s.p s.q s.n turns → Chain (sum_of sign) a b k s oi' ov' t oi'' ov''
      → Merging (op_of sign) 0 (seen a) (seen b) oi ov oi'' ov'' t.p t.q t.n (turns + k)
  merging_chain {turns = turns} m none = let e : turns + 0 ≡ turns = omega arith in rw e m
  merging_chain {k = suc k} {turns = turns} m (more c s) =
      let e : turns + suc k ≡ turns + k + 1 = omega arith in
      rw e (merging_step (merging_chain m c) s)

  module _ {oi' : List ℕ} {ov' : List Float} {w : Walk} {n turns : ℕ} (g : Walked sign a b oi ov oi' ov' w n turns) where
    running : (k free : ℕ) → w.p + k ≤ size (seen a) → w.q + k ≤ size (seen b) → n + free ≤ room_for Add a.dims (size (seen a)) (size (seen b))
        → Running k free (walk a w.p b w.q) n oi' ov'
    running k free left right room =
        let l = lengths r g.made in
        record {
          even = r.left.even;
          even' = r.right.even;
          most = omega (arith, size_most r.left, r.left.high);
          most' = omega (arith, size_most r.right, r.right.high);
          left = left;
          right = right;
          room = omega (arith, room, l.0, r.room);
          room' = omega (arith, room, l.1, r.room');
        }

    -- what a run is handed where both sides have an entry left, and the last turns where one has ended
    pub walked_on : Both w → Running 1 (longer w) w n oi' ov'
    walked_on both =
        let h : Both (walk a w.p b w.q) = rw g.here at both in
        let f = merging_fits r.left r.right g.made r.same in
        rw g.here
        (running 1 (longer (walk a w.p b w.q)) (omega (arith, h.0)) (omega (arith, h.1)) (omega (arith, f.0, f.1, h.0, h.1)))

    pub walked_out : (Both w → ⊥) → Running 0 (both_rests w) w n oi' ov'
    walked_out not_both =
        let u = g.made.going.walk in
        let f = merging_fits r.left r.right g.made r.same in
        let ended : (size (seen a) ≤ w.p) ⊎ (size (seen b) ≤ w.q) = one_ended (walk a w.p b w.q) (rw g.here at not_both) in
        rw g.here
        (running 0 (both_rests (walk a w.p b w.q)) (omega (arith, u.left.within)) (omega (arith, u.right.within))
        (⊎_elim (λ h. omega (arith, f.1, u.right.within)) (λ h. omega (arith, f.0, u.left.within)) ended))

    module _ {s : Block} {oi'' : List ℕ} {ov'' : List Float} (ran : Ran (sum_of sign) w n oi' ov' s oi'' ov'') where
      over : Ran (sum_of sign) (walk a w.p b w.q) n oi' ov' s oi'' ov''
      over = rw g.here at ran

      pub walked_more : Walked sign a b oi ov oi'' ov'' (walk w.a s.p w.b s.q) s.n (turns + s.turns)
      walked_more =
          record { here = ap (λ (v : Walk). walk v.a s.p v.b s.q) g.here; made = merging_chain g.made over.chain }

      pub walked_end : length w.a.indexes.now + length w.b.indexes.now ≤ s.p + s.q
          → FillsBy (op_of sign) (seen a) (seen b) oi ov (record { len = s.n; turns = turns + s.turns }) oi'' ov''
      walked_end h =
          let e : size (seen a) + size (seen b) ≤ s.p + s.q = rw g.here at h in
          rw (turns_is sign (seen a) (seen b)) (merging_fills r (merging_chain g.made over.chain) e)

      -- few turns were taken, and no more entries of a side passed than it has
      pub walked_few : (s.turns ≤ 2097150) × (s.p - w.p ≤ 1048575) × (s.q - w.q ≤ 1048575)
      walked_few =
          let l = size_most r.left in
          let m = size_most r.right in (
            omega (arith, over.passed, over.within, over.within', l, m, r.left.high, r.right.high),
            omega (arith, over.within, l, r.left.high),
            omega (arith, over.within', m, r.right.high),
          )
