-- What the loops of a merge in place are handed, and what they promise to each other and to the calls above them. A user's promises do not
-- cite these.
use Rattle.std.specs.Prelude.{ℕ, ◌+◌, ◌-◌, ◌≤◌, List, ◌++◌, ◌≡◌, length, take, Float}
use Rattle.sparse.specs.Vectors.{Vector, size}
use Rattle.sparse.specs.Sound.{Split, Sound}
use Rattle.merges.specs.Algebra.{room_for}
use Rattle.merges.specs.declared.Both.{Both}
use Rattle.merges.specs.declared.Op.TheVariants.{Add}
use Rattle.regions.specs.Regions.{part, Stands}
use Rattle.in_place.specs.Turns.{first_index}

-- ---- the merge

-- a state's entries a and a row b of equal dims passed; there is room for cap entries, and that is the room of their sum at least
pub record Roomy (a b : Vector) (cap : ℕ) (si : List ℕ) (sv : List Float) : Type 0 where
  pub left : Sound a
  pub right : Sound b
  pub same : a.dims ≡ b.dims
  pub spare : room_for Add a.dims (size a) (size b) ≤ cap
  pub long : cap ≤ length si
  pub long' : cap ≤ length sv

-- the entries before low and those from gap + low up to cap
abbrev pub around {ℓ} : {A : Type ℓ} → ℕ → ℕ → ℕ → List A → List A
around low gap cap l = take low l ++ part (gap + low) (cap - (gap + low)) l

-- such entries, of which the first low are those below the row's first index
pub record Raised (a b : Vector) (low gap cap : ℕ) (si : List ℕ) (sv : List Float) : Type 0 where
  pub roomy : Roomy a b cap si sv
  pub split : Split a.indexes low (first_index b)
  pub far : gap + size a ≡ cap

-- the entries of v, no more than cap, stand in front, after so many turns, and from cap on nothing changed
pub record Grown (v : Vector) (turns cap : ℕ) (si : List ℕ) (sv : List Float) (r : Both) (si' : List ℕ) (sv' : List Float) : Type 0 where
  pub count : r.len ≡ size v
  pub turned : r.turns ≡ turns
  pub fits : size v ≤ cap
  pub indexes : Stands 0 cap v.indexes si si'
  pub values : Stands 0 cap v.values sv sv'
