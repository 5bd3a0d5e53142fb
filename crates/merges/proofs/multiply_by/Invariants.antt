-- `merges::multiply_by` meets its contract: what is passed at once are turns to places that one side alone has. The loop's invariant: the
-- entries and the turns of the places below the walk are made, no more entries than entries of either vector are passed, and no more turns
-- than of both. The measure is the number of entries left in both. Assumes nothing.
use Rattle.merge_runs.specs.Runs.{both_rests}
use Rattle.merges.proofs.Common.{Multiplied}
use Rattle.merges.proofs.multiply_by.Given as goal

abbrev pub invariant-loop-w : goal.invariant-loop-w
invariant-loop-w g l = Multiplied l.a l.b l.initial.oi l.initial.ov l.oi l.ov l.w l.len l.turns

abbrev pub decreases-loop-w : goal.decreases-loop-w
decreases-loop-w g l = both_rests l.w
