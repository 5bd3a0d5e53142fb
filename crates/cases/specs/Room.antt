-- What a line has room for.
use Rattle.std.specs.Prelude.{ℕ, ◌≤◌, List, length, Float}
use Rattle.cases.specs.declared.Shape.{Shape}

-- so many indexes and values stand at the front of two lists
abbrev pub Inside : Shape → List ℕ → List Float → Type 0
Inside v is vs = (v.indexes ≤ length is) × (v.values ≤ length vs)

-- there are at most so many of each
abbrev pub Within : ℕ → Shape → Type 0
Within n v = (v.indexes ≤ n) × (v.values ≤ n)
