use Rattle.merge_runs.proofs.Loops.{runs_start, runs_more}
use Rattle.merge_runs.proofs.finish.Goals as goal

pub loop-sign-init : goal.loop-sign-init
loop-sign-init c = runs_start c.requires

pub loop-sign-preserved : goal.loop-sign-preserved
loop-sign-preserved c = runs_more c.requires c.loop-sign.invariant c.plain_step-s.ensures
