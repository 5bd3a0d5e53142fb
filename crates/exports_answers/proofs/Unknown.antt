-- A bound of an unknown kind is refused, whatever its number and the other bound. Assumes nothing.
use Rattle.std.proofs.Common.{◌≡◌, ℕ, ◌<◌, true, arith, ne_eqb}
use Rattle.std.specs.declared.ops.Bound.{Bound}
use mathlib.Core.Bool.{or-true}
use Rattle.refusal.specs.Bounds.{top_start, bad_bounds}
use Rattle.exports_answers.specs.Bounds.{bound_of, start_bound, end_bound}

module _ (kind n : ℕ) (unknown : 2 < kind) where
  other_kind : (other : Bound ℕ) → bound_of other kind n ≡ other
  other_kind other = rw (ne_eqb kind 0 (λ e. omega arith), ne_eqb kind 1 (λ e. omega arith), ne_eqb kind 2 (λ e. omega arith))

  pub bad_start : (to : Bound ℕ) (d : ℕ) → bad_bounds (start_bound kind n) to d ≡ true
  bad_start to d = rw (other_kind _)

  pub bad_end : (from : Bound ℕ) (d : ℕ) → bad_bounds from (end_bound kind n) d ≡ true
  bad_end from d = rw (other_kind _, or-true (top_start from))
