-- `sparse_slices::move_indexes` meets its contract. The loop's invariant: so many indexes are written. Assumes nothing.
use Rattle.std.proofs.Common.{◌-◌, slice_index}
use Rattle.places.proofs.Below.{Wrote}
use Rattle.sparse_slices.proofs.move_indexes.Given as goal

abbrev pub invariant-loop-j : goal.invariant-loop-j
invariant-loop-j l = Wrote (λ i. slice_index l.indexes i - l.start) l.initial.oi l.oi l.j
