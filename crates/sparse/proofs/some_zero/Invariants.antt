-- `sparse::some_zero` meets its contract. The loop's invariant: whether one of the values so far is zero. Assumes nothing.
use Rattle.std.proofs.Common.{◌≡◌}
use Rattle.places.specs.Below.{any_below}
use Rattle.sparse.specs.Calls.{zero_at}
use Rattle.sparse.proofs.some_zero.Given as goal

abbrev pub invariant-loop-value : goal.invariant-loop-value
invariant-loop-value l = l.found ≡ any_below (zero_at l.values) l.value-index
