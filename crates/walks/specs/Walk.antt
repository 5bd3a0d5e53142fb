-- What the walk over two vectors' entries goes by, and what its parts promise to the loops. A user's promises do not cite these.
use Rattle.std.specs.Prelude.{ℕ, ◌+◌, ◌≤◌, ◌<◌, List, ◌⊎◌, ◌≡◌, length, get_or, set, Float}
use Rattle.std.specs.Float.{nan}
use Rattle.sparse.specs.declared.Cell.{Cell}
use Rattle.sparse.specs.declared.Cell.TheVariants.{Empty, Full}
use Rattle.sparse.specs.declared.SVectBorrowed.{SVectBorrowed}
use Rattle.walks.specs.declared.Turn.{Turn}
use Rattle.walks.specs.declared.Walk.{Walk}

-- ---- one turn

abbrev pub turn : ℕ → Cell → Cell → ℕ → ℕ → Turn
turn k x y p q = record { place = k; x = x; y = y; p = p; q = q }

-- what a turn to the place k takes of a vector at the entry p, which is then at p': the entry p if its index is k; nothing if there is
-- none or its index is above k
abbrev pub Taken : List ℕ → List Float → ℕ → ℕ → Cell → ℕ → Type 0
Taken is vs p k x p' =
    ((p < length is) × (get_or is p 0 ≡ k) × (x ≡ Full (get_or vs p nan)) × (p' ≡ p + 1))
    ⊎ ((p < length is → k < get_or is p 0) × (x ≡ Empty) × (p' ≡ p))

-- a walk stands at the entries p and q of two vectors, and has one left at least
pub record Standing (is : List ℕ) (vs : List Float) (p : ℕ) (js : List ℕ) (ws : List Float) (q : ℕ) : Type 0 where
  pub even : length is ≡ length vs
  pub even' : length js ≡ length ws
  pub within : p ≤ length is
  pub within' : q ≤ length js
  pub most : length is ≤ 1048575
  pub most' : length js ≤ 1048575
  pub more : p + q < length is + length js

-- a turn takes what stands at its place in both, and one entry at least
pub record Turned (is : List ℕ) (vs : List Float) (p : ℕ) (js : List ℕ) (ws : List Float) (q : ℕ) (t : Turn) : Type 0 where
  pub left : Taken is vs p t.place t.x t.p
  pub right : Taken js ws q t.place t.y t.q
  pub some : p + q < t.p + t.q

-- ---- a walk as one value

abbrev pub walk : SVectBorrowed → ℕ → SVectBorrowed → ℕ → Walk
walk a p b q = record { a = a; p = p; b = b; q = q }

-- both sides have an entry left, or one of them at least
abbrev pub Both : Walk → Type 0
Both w = (w.p < length w.a.indexes.now) × (w.q < length w.b.indexes.now)

abbrev pub Any : Walk → Type 0
Any w = (w.p < length w.a.indexes.now) ⊎ (w.q < length w.b.indexes.now)

abbrev pub Stands : Walk → Type 0
Stands w = Standing w.a.indexes.now w.a.values.now w.p w.b.indexes.now w.b.values.now w.q

abbrev pub Turns : Walk → Turn → Type 0
Turns w t = Turned w.a.indexes.now w.a.values.now w.p w.b.indexes.now w.b.values.now w.q t

-- the turns to a place that only the left vector has, and only the right one
abbrev pub left_turn : Walk → Turn
left_turn w = turn (get_or w.a.indexes.now w.p 0) (Full (get_or w.a.values.now w.p nan)) Empty (w.p + 1) w.q

abbrev pub right_turn : Walk → Turn
right_turn w = turn (get_or w.b.indexes.now w.q 0) Empty (Full (get_or w.b.values.now w.q nan)) w.p (w.q + 1)

-- ---- one store

-- a full cell is stored at n
abbrev pub put_index : Cell → List ℕ → ℕ → ℕ → List ℕ
put_index Empty l n k = l
put_index (Full v) l n k = set l n k

abbrev pub put_value : Cell → List Float → ℕ → List Float
put_value Empty l n = l
put_value (Full v) l n = set l n v

abbrev pub put_count : Cell → ℕ → ℕ
put_count Empty n = n
put_count (Full v) n = n + 1

pub record Put (z : Cell) (k n : ℕ) (oi : List ℕ) (ov : List Float) (r : ℕ) (oi' : List ℕ) (ov' : List Float) : Type 0 where
  pub count : r ≡ put_count z n
  pub indexes : oi' ≡ put_index z oi n k
  pub values : ov' ≡ put_value z ov n
