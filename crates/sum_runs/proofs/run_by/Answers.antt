use Rattle.std.proofs.Common.{arith}
use Rattle.sums.proofs.Runs.{runs_start, runs_more}
use Rattle.sum_runs.proofs.run_by.Goals as goal

pub loop-init : goal.loop-init
loop-init g c = runs_start

pub loop-preserved : goal.loop-preserved
loop-preserved g c = runs_more c.requires c.loop.invariant (omega arith) c.turn-part.ensures
