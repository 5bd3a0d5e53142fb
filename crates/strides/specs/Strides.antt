-- What the turns of a merge in place are handed, and what they promise to its loop. A user's promises do not cite these.
use Rattle.std.specs.Prelude.{ℕ, suc, ◌+◌, ◌-◌, ◌≤◌, ◌<◌, List, ◌≡◌, length, Float}
use Rattle.walks.specs.Walk.{Standing, Turned, Put}
use Rattle.walks.specs.declared.Turn.{Turn}
use Rattle.steps.specs.Places.{added}
use Rattle.regions.specs.Regions.{part}
use Rattle.copies.specs.declared.Step.{Step}
use Rattle.strides.specs.declared.Stride.{Stride}

-- ---- one turn

-- a turn of the merge stands at the entries from `at` up to cap and at the row's from q on, and there is room for an entry n
pub record Steady (si : List ℕ) (sv : List Float) (at cap n : ℕ) (ib : List ℕ) (vb : List Float) (q : ℕ) : Type 0 where
  pub order : at ≤ cap
  pub long : cap ≤ length si
  pub long' : cap ≤ length sv
  pub standing : Standing (part at (cap - at) si) (part at (cap - at) sv) 0 ib vb q
  pub room : n < length si
  pub room' : n < length sv

-- both sides have an entry left, and there is room for an entry n
pub record Meeting (si : List ℕ) (sv : List Float) (at cap n : ℕ) (ib : List ℕ) (vb : List Float) (q : ℕ) : Type 0 where
  pub left : at < cap
  pub right : q < length ib
  pub even : length ib ≡ length vb
  pub long : cap ≤ length si
  pub long' : cap ≤ length sv
  pub room : n < length si
  pub room' : n < length sv

-- it had one left, took a turn, and put what that gives
pub record Stepped (si : List ℕ) (sv : List Float) (at cap n : ℕ) (ib : List ℕ) (vb : List Float) (q : ℕ) (r : Step) (si' : List ℕ) (sv' : List Float)
    : Type 0 where
  pub turn : Turn
  pub some : at + q < cap + length ib
  pub turned : Turned (part at (cap - at) si) (part at (cap - at) sv) 0 ib vb q turn
  pub put : Put (added turn.x turn.y) turn.place n si sv r.n si' sv'
  pub left : r.at ≡ at + turn.p
  pub right : r.q ≡ turn.q

-- ---- many turns

abbrev pub step : ℕ → ℕ → ℕ → Step
step at q n = record { at = at; q = q; n = n }

-- k turns lead from s to t, and from the lists si and sv to si' and sv'
pub data Chain (cap : ℕ) (ib : List ℕ) (vb : List Float) : ℕ → Step → List ℕ → List Float → Step → List ℕ → List Float → Type 0 where
  none : {s : Step} {si : List ℕ} {sv : List Float} → Chain cap ib vb 0 s si sv s si sv
  more : {k : ℕ} {s : Step} {si : List ℕ} {sv : List Float} {t : Step} {si' : List ℕ} {sv' : List Float} {u : Step} {si'' : List ℕ} {sv'' : List Float}
      → Chain cap ib vb k s si sv t si' sv' → Stepped si' sv' t.at cap t.n ib vb t.q u si'' sv''
      → Chain cap ib vb (suc k) s si sv u si'' sv''

-- a stride is so many turns
abbrev pub Strode : List ℕ → List Float → Step → ℕ → List ℕ → List Float → Stride → List ℕ → List Float → Type 0
Strode si sv s cap ib vb r si' sv' = Chain cap ib vb r.turns s si sv r.step si' sv'

-- both sides have k entries left, and there is room for as many
pub record Ample (si : List ℕ) (sv : List Float) (at cap n : ℕ) (ib : List ℕ) (vb : List Float) (q k : ℕ) : Type 0 where
  pub left : at + k ≤ cap
  pub right : q + k ≤ length ib
  pub even : length ib ≡ length vb
  pub clear : n ≤ at
  pub long : cap ≤ length si
  pub long' : cap ≤ length sv
