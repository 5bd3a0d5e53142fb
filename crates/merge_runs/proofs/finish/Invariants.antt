-- `merge_runs::finish` meets its contract. The measure is the number of entries left in both. Assumes nothing.
use Rattle.steps.specs.Turns.{sum_of}
use Rattle.merge_runs.specs.Runs.{both_rests}
use Rattle.merge_runs.proofs.Loops.{Runs}
use Rattle.merge_runs.proofs.finish.Given as goal

abbrev pub invariant-loop-sign : goal.invariant-loop-sign
invariant-loop-sign l = Runs (sum_of l.sign) l.initial.w l.initial.n l.initial.oi l.initial.ov l.oi l.ov l.w l.n l.turns

abbrev pub decreases-loop-sign : goal.decreases-loop-sign
decreases-loop-sign l = both_rests l.w
