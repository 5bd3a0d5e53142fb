-- What the walk that divides is handed, and what it promises to the call above it. A user's promises do not cite these.
use Rattle.std.specs.Prelude.{ℕ, ◌≤◌, Bool, true, false, List, ◌++◌, ◌≡◌, length, drop, Float}
use Rattle.sparse.specs.Cells.{is_zero}
use Rattle.sparse.specs.Vectors.{Vector, size}
use Rattle.sparse.specs.Sound.{Sound}

-- where r says so, none of four values is zero
abbrev pub NoneZero : Float → Float → Float → Float → Bool → Type 0
NoneZero a b c d r = r ≡ true → (is_zero a ≡ false) × (is_zero b ≡ false) × (is_zero c ≡ false) × (is_zero d ≡ false)

-- a vector that passed, and room for its entries
pub record Divides (v : Vector) (oi : List ℕ) (ov : List Float) : Type 0 where
  pub sound : Sound v
  pub room : size v ≤ length oi
  pub room' : size v ≤ length ov

-- the entries of v stand in front of what is left of the lists
pub record Divided (v : Vector) (oi : List ℕ) (ov : List Float) (n : ℕ) (oi' : List ℕ) (ov' : List Float) : Type 0 where
  pub count : n ≡ size v
  pub indexes : oi' ≡ v.indexes ++ drop n oi
  pub values : ov' ≡ v.values ++ drop n ov
