-- The loop of a run. Assumes nothing.
use Rattle.std.proofs.Common.{◌≡◌, ℕ, suc, ◌+◌, ◌≤◌, ◌<◌, List, length, refl, ap, ◌∙◌, inl, inr, ⊎_elim, add-one, arith}
use Rattle.std.specs.Float.{Float}
use Rattle.places.proofs.Below.{le_or_lt}
use Rattle.sparse.specs.declared.Cell.{Cell}
use Rattle.sparse.specs.declared.SVectBorrowed.{SVectBorrowed}
use Rattle.walks.specs.Walk.{walk, Both, Any}
use Rattle.walks.specs.declared.Walk.{Walk}
use Rattle.walks.proofs.Stores.{put_most}
use Rattle.steps.specs.Turns.{Steady, Stepped, step, Chain, none, more}
use Rattle.steps.specs.declared.Step.{Step}
use Rattle.steps.proofs.Turning.{index_length, value_length, left_within, right_within, left_on, right_on, passes}
use Rattle.merge_runs.specs.Runs.{Running, Ran, longer}
use Rattle.merge_runs.specs.declared.Block.{Block}

-- `taken` turns lead from the walk w, with n entries written, to the walk w' over the same two, with m written
pub record Runs (join : Cell → Cell → Cell) (w : Walk) (n : ℕ) (oi : List ℕ) (ov : List Float) (oi' : List ℕ) (ov' : List Float)
    (w' : Walk) (m taken : ℕ) : Type 0 where
  pub here : w' ≡ walk w.a w'.p w.b w'.q
  pub chain : Chain join w.a w.b taken (step w.p w.q n) oi ov (step w'.p w'.q m) oi' ov'
  pub long : length oi' ≡ length oi
  pub long' : length ov' ≡ length ov
  pub passed : w.p + w.q + taken ≤ w'.p + w'.q
  pub left : w'.p ≤ w.p + taken
  pub right : w'.q ≤ w.q + taken
  pub within : w'.p ≤ length w.a.indexes.now
  pub within' : w'.q ≤ length w.b.indexes.now
  pub wrote : m ≤ n + taken

module _ {join : Cell → Cell → Cell} {w : Walk} {n : ℕ} {oi : List ℕ} {ov : List Float} {k room : ℕ} (h : Running k room w n oi ov) where
  pub runs_start : Runs join w n oi ov oi ov w n 0
  runs_start =
      record {
        here = refl;
        chain = none;
        long = refl;
        long' = refl;
        passed = omega arith;
        left = omega arith;
        right = omega arith;
        within = omega (arith, h.left);
        within' = omega (arith, h.right);
        wrote = omega arith;
      }

  module _ {oi' : List ℕ} {ov' : List Float} {w' : Walk} {m taken : ℕ} (g : Runs join w n oi ov oi' ov' w' m taken) where
    -- both sides have an entry left before the run's last turn
    pub runs_left : taken < k → Both w'
    runs_left l = rw g.here (omega (arith, g.left, h.left), omega (arith, g.right, h.right))

    -- there is room for as many entries as turns
    pub runs_steady : taken < room → Any w' → Steady w' m oi' ov'
    runs_steady few l =
        rw g.here
        (record {
          standing = record {
            even = h.even;
            even' = h.even';
            within = g.within;
            within' = g.within';
            most = h.most;
            most' = h.most';
            more = let l' : Any (walk w.a w'.p w.b w'.q) = rw g.here at l in
                ⊎_elim (λ a. omega (arith, g.within')) (λ b. omega (arith, g.within)) l';
          };
          room = omega (arith, g.wrote, g.long, h.room);
          room' = omega (arith, g.wrote, g.long', h.room');
        })

    pub runs_more : {r : Step} {oi'' : List ℕ} {ov'' : List Float} → Stepped join w' m oi' ov' r oi'' ov''
        → Runs join w n oi ov oi'' ov'' (walk w'.a r.p w'.b r.q) r.n (taken + 1)
    runs_more {r} {oi''} {ov''} s' =
        let s : Stepped join (walk w.a w'.p w.b w'.q) m oi' ov' r oi'' ov'' = rw g.here at s' in
        let a = left_within s g.within in
        let b = right_within s g.within' in
        record {
          here = ap (λ (v : Walk). walk v.a r.p v.b r.q) g.here;
          chain = rw add-one (more g.chain s);
          long = index_length s ∙ g.long;
          long' = value_length s ∙ g.long';
          passed = omega (arith, g.passed, passes s);
          left = omega (arith, g.left, a.1);
          right = omega (arith, g.right, b.1);
          within = a.0;
          within' = b.0;
          wrote = omega (arith, g.wrote, s.put.count, put_most (join s.turn.x s.turn.y) m);
        }

    pub ran : Ran join w n oi ov (record { p = w'.p; q = w'.q; n = m; turns = taken }) oi' ov'
    ran =
        record {
          chain = g.chain;
          left = omega (arith, g.passed, g.right);
          right = omega (arith, g.passed, g.left);
          within = g.within;
          within' = g.within';
          passed = g.passed;
        }

    -- where neither side has an entry left
    pub runs_out : (Any w' → ⊥) → length w.a.indexes.now + length w.b.indexes.now ≤ w'.p + w'.q
    runs_out out =
        let e = ap (λ (v : Walk). length v.a.indexes.now) g.here in
        let f = ap (λ (v : Walk). length v.b.indexes.now) g.here in
        ⊎_elim
        (λ a. ⊎_elim (λ b. omega arith) (λ b. absurd (out (inr (omega arith)))) (le_or_lt (length w.b.indexes.now) w'.q))
        (λ a. absurd (out (inl (omega arith))))
        (le_or_lt (length w.a.indexes.now) w'.p)

-- ---- a turn before a run
chain_then : {join : Cell → Cell → Cell} {a b : SVectBorrowed} {s : Step} {oi : List ℕ}
    {ov : List Float} {t : Step} {oi' : List ℕ} {ov' : List Float} {k : ℕ} {u : Step} {oi'' : List ℕ} {ov'' : List Float}
    → Stepped join (walk a s.p b s.q) s.n oi ov t oi' ov' → Chain join a b k t oi' ov' u oi'' ov''
    → Chain join a b (suc k) s oi ov u oi'' ov''
chain_then s none = more none s
chain_then s (more c t) = more (chain_then s c) t

module _ {join : Cell → Cell → Cell} {w : Walk} {n : ℕ} {oi : List ℕ} {ov : List Float} {k : ℕ} (h : Running k (longer w) w n oi ov)
    {s : Step} {oi' : List ℕ} {ov' : List Float} (t : Stepped join w n oi ov s oi' ov') where
  -- the turn passed an entry of a side, which has room for as many as it had
  pub running_then : {m : ℕ} → s.p + m ≤ length w.a.indexes.now → s.q + m ≤ length w.b.indexes.now
      → Running m m (walk w.a s.p w.b s.q) s.n oi' ov'
  running_then {m} l r =
      let z = put_most (join t.turn.x t.turn.y) n in
      let some = passes t in
      let most : s.n + m ≤ n + longer w = omega (arith, t.put.count, z, some) in
      record {
        even = h.even;
        even' = h.even';
        most = h.most;
        most' = h.most';
        left = l;
        right = r;
        room = omega (arith, most, h.room, index_length t);
        room' = omega (arith, most, h.room', value_length t);
      }

  pub ran_then : {r : Block} {oi'' : List ℕ} {ov'' : List Float} → Ran join (walk w.a s.p w.b s.q) s.n oi' ov' r oi'' ov''
      → Ran join w n oi ov (record { p = r.p; q = r.q; n = r.n; turns = r.turns + 1 }) oi'' ov''
  ran_then g =
      record {
        chain = rw add-one (chain_then t g.chain);
        left = omega (arith, g.left, left_on t);
        right = omega (arith, g.right, right_on t);
        within = g.within;
        within' = g.within';
        passed = omega (arith, g.passed, passes t);
      }
