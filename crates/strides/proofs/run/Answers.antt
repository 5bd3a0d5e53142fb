use Rattle.strides.proofs.Chains.{runs_start, runs_more}
use Rattle.strides.proofs.run.Goals as goal

pub loop-turns-init : goal.loop-turns-init
loop-turns-init c = runs_start

pub loop-turns-preserved : goal.loop-turns-preserved
loop-turns-preserved c = runs_more c.loop-turns.invariant c.store_step-step.ensures
