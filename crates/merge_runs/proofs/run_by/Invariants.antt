-- `merge_runs::run_by` meets its contract: its turns lead from where it began to where it is. Assumes nothing.
use Rattle.steps.specs.Turns.{sum_of}
use Rattle.merge_runs.proofs.Loops.{Runs}
use Rattle.merge_runs.proofs.run_by.Given as goal

abbrev pub invariant-loop-taken : goal.invariant-loop-taken
invariant-loop-taken g l = Runs (sum_of l.sign) l.initial.w l.initial.n l.initial.oi l.initial.ov l.oi l.ov l.w l.n l.taken
