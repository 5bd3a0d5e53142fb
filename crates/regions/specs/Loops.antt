-- What a copy is handed, and what it promises to the calls above it. A user's promises do not cite these.
use Rattle.std.specs.Prelude.{ℕ, ◌+◌, ◌≤◌, length}
use Rattle.regions.specs.Regions.{Pair, part, Stands}

-- n entries from `from` on are there, and n places from `to` on
pub record Fitting (from n : ℕ) (p : Pair) (to : ℕ) (q : Pair) : Type 0 where
  pub indexes : from + n ≤ length p.indexes
  pub values : from + n ≤ length p.values
  pub room : to + n ≤ length q.indexes
  pub room' : to + n ≤ length q.values

-- the entries stand at those places, and nothing else has changed
pub record Copied (from n : ℕ) (p : Pair) (to : ℕ) (q q' : Pair) : Type 0 where
  pub indexes : Stands to n (part from n p.indexes) q.indexes q'.indexes
  pub values : Stands to n (part from n p.values) q.values q'.values
