-- What the ways to take a turn of a sum, a difference or a product promise, and what many turns come to. A user's promises do not cite
-- these.
use Rattle.std.specs.Prelude.{ℕ, suc, ◌+◌, ◌<◌, false, List, ◌≡◌, length, get_or, Float}
use Rattle.std.specs.Float.{binary32, nan}
use Rattle.std.specs.Float.Ieee.{add, sub, neg}
use Rattle.sparse.specs.Cells.{is_zero}
use Rattle.sparse.specs.declared.Cell.{Cell}
use Rattle.sparse.specs.declared.SVectBorrowed.{SVectBorrowed}
use Rattle.walks.specs.Walk.{walk, Stands, Turns, Put}
use Rattle.walks.specs.declared.Turn.{Turn}
use Rattle.walks.specs.declared.Walk.{Walk}
use Rattle.steps.specs.Places.{added, subtracted}
use Rattle.steps.specs.declared.Sign.{Sign}
use Rattle.steps.specs.declared.Sign.TheVariants.{Plus, Minus}
use Rattle.steps.specs.declared.Step.{Step}

-- ---- sums and differences

-- a difference, or a sum
abbrev pub sum_of : Sign → Cell → Cell → Cell
sum_of Minus = subtracted
sum_of Plus = added

-- what a value of the right side comes to alone, and with one of the left
abbrev pub alone_of : Sign → Float → Float
alone_of Minus y = neg y
alone_of Plus y = y

abbrev pub met_of : Sign → Float → Float → Float
met_of Minus x y = sub binary32 x y
met_of Plus x y = add binary32 x y

-- ---- one turn

-- a walk stands, and there is room for an entry n
pub record Steady (w : Walk) (n : ℕ) (oi : List ℕ) (ov : List Float) : Type 0 where
  pub standing : Stands w
  pub room : n < length oi
  pub room' : n < length ov

-- both sides have an entry left, and if they are of one place they do not come to zero
pub record Stores (sign : Sign) (w : Walk) : Type 0 where
  pub left : w.p < length w.a.indexes.now
  pub right : w.q < length w.b.indexes.now
  pub some : get_or w.a.indexes.now w.p 0 ≡ get_or w.b.indexes.now w.q 0
      → is_zero (met_of sign (get_or w.a.values.now w.p nan) (get_or w.b.values.now w.q nan)) ≡ false

-- it took a turn, and put what its place gives
pub record Stepped (join : Cell → Cell → Cell) (w : Walk) (n : ℕ) (oi : List ℕ) (ov : List Float) (r : Step) (oi' : List ℕ)
    (ov' : List Float) : Type 0 where
  pub turn : Turn
  pub more : w.p + w.q < length w.a.indexes.now + length w.b.indexes.now
  pub turned : Turns w turn
  pub put : Put (join turn.x turn.y) turn.place n oi ov r.n oi' ov'
  pub left : r.p ≡ turn.p
  pub right : r.q ≡ turn.q

-- ---- many turns

abbrev pub step : ℕ → ℕ → ℕ → Step
step p q n = record { p = p; q = q; n = n }

-- k turns over a and b lead from the entries of s to those of t, and from the lists oi and ov to oi' and ov'
pub data Chain (join : Cell → Cell → Cell) (a b : SVectBorrowed)
    : ℕ → Step → List ℕ → List Float → Step → List ℕ → List Float → Type 0 where
  none : {s : Step} {oi : List ℕ} {ov : List Float} → Chain join a b 0 s oi ov s oi ov
  more : {k : ℕ} {s : Step} {oi : List ℕ} {ov : List Float} {t : Step} {oi' : List ℕ} {ov' : List Float} {u : Step} {oi'' : List ℕ}
      {ov'' : List Float}
      → Chain join a b k s oi ov t oi' ov' → Stepped join (walk a t.p b t.q) t.n oi' ov' u oi'' ov''
      → Chain join a b (suc k) s oi ov u oi'' ov''
