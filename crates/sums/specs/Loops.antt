-- What the loops that sum are handed, and what they promise. A is what is summed: a float, or three. A user's promises do not cite these.
use Rattle.std.specs.Prelude.{ℕ, suc, ◌+◌, ◌≤◌, ◌<◌, cond, ◌≡◌, ltb, eqb, length, get_or, Float}
use Rattle.sparse.specs.Vectors.{Vector}
use Rattle.sparse.specs.Sound.{Sound}
use Rattle.sparse.specs.declared.Cell.{Cell}
use Rattle.sparse.specs.declared.Cell.TheVariants.{Empty, Full}
use Rattle.walks.specs.Walk.{walk, Stands, Turns}
use Rattle.walks.specs.declared.Turn.{Turn}
use Rattle.walks.specs.declared.Walk.{Walk}
use Rattle.sums.specs.Sums.{product_step, difference_step}
use Rattle.sums.specs.declared.Products.{Products}
use Rattle.sums.specs.declared.Differences.{Differences}

-- two vectors of equal dims that passed
pub record Ready (a b : Vector) : Type 0 where
  pub left : Sound a
  pub right : Sound b
  pub even : a.dims ≡ b.dims

-- ---- the steps of the sums of one float

abbrev pub products_step : Products → Cell → Cell → Products
products_step s x y = record { 0 = product_step s.0 x y }

abbrev pub differences_step : Differences → Cell → Cell → Differences
differences_step s x y = record { 0 = difference_step s.0 x y }

-- ---- one turn

-- the sum with the place of the smaller of two indexes i and j, if x and y are the values there
abbrev pub next_of : {A : Type 0} → (A → Cell → Cell → A) → A → ℕ → ℕ → Float → Float → A
next_of step acc i j x y = cond (eqb i j) (step acc (Full x) (Full y)) (cond (ltb i j) (step acc (Full x) Empty) (step acc Empty (Full y)))

-- a turn of a walk to u and v added what stands there
pub record Added {A : Type 0} (step : A → Cell → Cell → A) (acc : A) (w : Walk) (sum : A) (u v : ℕ) : Type 0 where
  pub turn : Turn
  pub turned : Turns w turn
  pub sums : sum ≡ step acc turn.x turn.y
  pub left : u ≡ turn.p
  pub right : v ≡ turn.q

-- both sides have an entry left, and they are not at one place
pub record Apart (w : Walk) : Type 0 where
  pub stands : Stands w
  pub left : w.p < length w.a.indexes.now
  pub right : w.q < length w.b.indexes.now
  pub apart : get_or w.a.indexes.now w.p 0 ≡ get_or w.b.indexes.now w.q 0 → ⊥

-- ---- so many turns

-- both sides have k entries left at least
pub record Running (w : Walk) (k : ℕ) : Type 0 where
  pub even : length w.a.indexes.now ≡ length w.a.values.now
  pub even' : length w.b.indexes.now ≡ length w.b.values.now
  pub most : length w.a.indexes.now ≤ 1048575
  pub most' : length w.b.indexes.now ≤ 1048575
  pub left : w.p + k ≤ length w.a.indexes.now
  pub right : w.q + k ≤ length w.b.indexes.now

-- turns of a walk, one after the other
pub data Chain {A : Type 0} (step : A → Cell → Cell → A) (acc : A) (w : Walk) : ℕ → A → ℕ → ℕ → Type 0 where
  none : Chain step acc w 0 acc w.p w.q
  more : {k : ℕ} {s : A} {u v : ℕ} {s' : A} {u' v' : ℕ} → Chain step acc w k s u v → Added step s (walk w.a u w.b v) s' u' v'
      → Chain step acc w (suc k) s' u' v'

-- k turns of a walk led to u and v
pub record Ran {A : Type 0} (step : A → Cell → Cell → A) (k : ℕ) (acc : A) (w : Walk) (sum : A) (u v : ℕ) : Type 0 where
  pub chain : Chain step acc w k sum u v
  pub left : w.p ≤ u
  pub right : w.q ≤ v
  pub within : u ≤ length w.a.indexes.now
  pub within' : v ≤ length w.b.indexes.now
  pub passed : w.p + w.q + k ≤ u + v
