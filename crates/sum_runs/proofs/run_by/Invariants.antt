-- `sum_runs::run_by` meets its contract: its turns are those of a walk. Assumes nothing.
use Rattle.sums.proofs.Runs.{Runs}
use Rattle.sum_runs.proofs.run_by.Given as goal

abbrev pub invariant-loop : goal.invariant-loop
invariant-loop g l = Runs g.S.Sum.step l.k l.fn.acc l.w l.part.p l.part.q l.part.acc l.counter
