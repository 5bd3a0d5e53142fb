-- What the loops that merge promise to the calls above them. A user's promises do not cite these.
use Rattle.std.specs.Prelude.{ℕ, ◌+◌, ◌≤◌, ◌<◌, List, ◌++◌, ◌≡◌, length, get_or, drop, Float}
use Rattle.sparse.specs.Vectors.{Vector, size}
use Rattle.sparse.specs.Sound.{Sound}
use Rattle.steps.specs.declared.Sign.{Sign}
use Rattle.steps.specs.declared.Sign.TheVariants.{Plus, Minus}
use Rattle.merges.specs.Algebra.{joins, turns_of, room_for}
use Rattle.merges.specs.declared.Op.{Op}
use Rattle.merges.specs.declared.Op.TheVariants.{Add, Sub}
use Rattle.merges.specs.declared.Both.{Both}

-- two vectors of equal dims that passed, and room for n entries
pub record Ready (a b : Vector) (n : ℕ) (oi : List ℕ) (ov : List Float) : Type 0 where
  pub left : Sound a
  pub right : Sound b
  pub same : a.dims ≡ b.dims
  pub room : n ≤ length oi
  pub room' : n ≤ length ov

-- the entries of v stand in front of what is left of the lists, after so many turns
pub record Fills (v : Vector) (turns : ℕ) (oi : List ℕ) (ov : List Float) (r : Both) (oi' : List ℕ) (ov' : List Float) : Type 0 where
  pub count : r.len ≡ size v
  pub turned : r.turns ≡ turns
  pub indexes : oi' ≡ v.indexes ++ drop (size v) oi
  pub values : ov' ≡ v.values ++ drop (size v) ov

-- two vectors and the room that what they give needs, and what they give
abbrev pub ReadyFor : Op → Vector → Vector → List ℕ → List Float → Type 0
ReadyFor op a b = Ready a b (room_for op a.dims (size a) (size b))

abbrev pub FillsBy : Op → Vector → Vector → List ℕ → List Float → Both → List ℕ → List Float → Type 0
FillsBy op a b = Fills (joins op a b) (turns_of op a b)

-- ---- sums and differences

-- a difference, or a sum
abbrev pub op_of : Sign → Op
op_of Minus = Sub
op_of Plus = Add

-- ---- products

-- the first r indexes are below k
abbrev pub Below : List ℕ → ℕ → ℕ → Type 0
Below is k r = (r ≤ length is) × ((j : ℕ) → j < r → get_or is j 0 < k)

-- the r indexes from p on are below the other side's index q
abbrev pub Passed : List ℕ → ℕ → List ℕ → ℕ → ℕ → Type 0
Passed is p js q r = (p + r ≤ length is) × ((j : ℕ) → j < r → (q < length js) × (get_or is (p + j) 0 < get_or js q 0))
