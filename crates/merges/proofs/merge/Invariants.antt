-- `merges::merge` meets its contract. The loop's invariant: the entries and the turns of the places below the walk are made, and no more of
-- them than entries are passed. The measure is the number of entries left in both. Assumes nothing.
use Rattle.merge_runs.specs.Runs.{both_rests}
use Rattle.merges.proofs.Turning.{Walked}
use Rattle.merges.proofs.merge.Given as goal

abbrev pub invariant-loop-way : goal.invariant-loop-way
invariant-loop-way l = Walked l.sign l.a l.b l.initial.oi l.initial.ov l.oi l.ov l.w l.n l.turns

abbrev pub decreases-loop-way : goal.decreases-loop-way
decreases-loop-way l = both_rests l.w
