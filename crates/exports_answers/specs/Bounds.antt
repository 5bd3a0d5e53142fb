-- A bound of a slice as two numbers: a kind, 0 included, 1 excluded, 2 unbounded, and the number that it stands at. The number of an
-- unbounded one is not read. A bound of another kind is `other`.
use Rattle.std.specs.Prelude.{ℕ, cond, eqb}
use Rattle.std.specs.declared.ops.Bound.{Bound}
use Rattle.std.specs.declared.ops.Bound.TheVariants.{Included, Excluded, Unbounded}

abbrev pub bound_of : Bound ℕ → ℕ → ℕ → Bound ℕ
bound_of other kind n = cond (eqb kind 0) (Included n) (cond (eqb kind 1) (Excluded n) (cond (eqb kind 2) Unbounded other))

-- "An Excluded start or Included end of 4,294,967,295 is BOUNDS", and so is a bound of another kind
abbrev pub start_bound : ℕ → ℕ → Bound ℕ
start_bound = bound_of (Excluded 4294967295)

abbrev pub end_bound : ℕ → ℕ → Bound ℕ
end_bound = bound_of (Included 4294967295)
