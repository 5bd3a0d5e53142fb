-- `merge_runs::any_run` meets its contract: a turn, and the turns of a run. Assumes nothing.
use Rattle.merge_runs.proofs.Loops.{ran_then}
use Rattle.merge_runs.proofs.any_run.Goals as goal

pub returns-clause-ran : goal.returns-clause-ran
returns-clause-ran c = ran_then c.requires c.met_step-s.ensures c.run-r.ensures
