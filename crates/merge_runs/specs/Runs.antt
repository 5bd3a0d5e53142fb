-- What a run of turns is handed, and what it promises. A user's promises do not cite these.
use Rattle.std.specs.Prelude.{ℕ, ◌+◌, ◌-◌, ◌≤◌, max, List, ◌≡◌, length, Float, Option, Some, None}
use Rattle.sparse.specs.declared.Cell.{Cell}
use Rattle.walks.specs.declared.Walk.{Walk}
use Rattle.steps.specs.Turns.{step, Stepped, Chain}
use Rattle.steps.specs.declared.Step.{Step}
use Rattle.merge_runs.specs.declared.Block.{Block}

-- a turn was taken, or none and nothing was written
abbrev pub Tried : (Cell → Cell → Cell) → Walk → ℕ → List ℕ → List Float → Option Step → List ℕ → List Float → Type 0
Tried join w n oi ov None oi' ov' = (oi' ≡ oi) × (ov' ≡ ov)
Tried join w n oi ov (Some s) oi' ov' = Stepped join w n oi ov s oi' ov'

-- how many entries the longer side has left, and how many both have
abbrev pub longer : Walk → ℕ
longer w = max (length w.a.indexes.now - w.p) (length w.b.indexes.now - w.q)

abbrev pub both_rests : Walk → ℕ
both_rests w = length w.a.indexes.now - w.p + (length w.b.indexes.now - w.q)

-- both sides of a walk have k entries left, and there is room for m entries from n on
pub record Running (k m : ℕ) (w : Walk) (n : ℕ) (oi : List ℕ) (ov : List Float) : Type 0 where
  pub even : length w.a.indexes.now ≡ length w.a.values.now
  pub even' : length w.b.indexes.now ≡ length w.b.values.now
  pub most : length w.a.indexes.now ≤ 1048575
  pub most' : length w.b.indexes.now ≤ 1048575
  pub left : w.p + k ≤ length w.a.indexes.now
  pub right : w.q + k ≤ length w.b.indexes.now
  pub room : n + m ≤ length oi
  pub room' : n + m ≤ length ov

-- it took turns, none or more
pub record Ran (join : Cell → Cell → Cell) (w : Walk) (n : ℕ) (oi : List ℕ) (ov : List Float) (r : Block) (oi' : List ℕ) (ov' : List Float)
    : Type 0 where
  pub chain : Chain join w.a w.b r.turns (step w.p w.q n) oi ov (step r.p r.q r.n) oi' ov'
  pub left : w.p ≤ r.p
  pub right : w.q ≤ r.q
  pub within : r.p ≤ length w.a.indexes.now
  pub within' : r.q ≤ length w.b.indexes.now
  pub passed : w.p + w.q + r.turns ≤ r.p + r.q
