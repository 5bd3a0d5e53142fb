-- `in_place::merge_up` meets its contract. The loop's invariant: the merge has passed the state's entries and the row's before those where it
-- stands, and has made what they give (`Climbing`). The measure is the number of entries left in both. Assumes nothing.
use Rattle.std.proofs.Common.{◌+◌, ◌-◌, length}
use Rattle.sparse.specs.Vectors.{seen}
use Rattle.in_place.proofs.Climbs.{Climbing, lying}
use Rattle.in_place.proofs.merge_up.Given as goal

abbrev pub invariant-loop-step : goal.invariant-loop-step
invariant-loop-step l =
    Climbing (lying l.row.dims l.low l.gap l.cap l.fn.si l.fn.sv) (seen l.row) l.low l.gap l.fn.si l.fn.sv l.si l.sv l.step.at l.step.q l.step.n l.turns

abbrev pub decreases-loop-step : goal.decreases-loop-step
decreases-loop-step l = l.cap + length l.row.indexes.now - (l.step.at + l.step.q)
