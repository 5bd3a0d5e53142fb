use Rattle.std.proofs.Common.{inl}
use Rattle.merge_runs.proofs.Loops.{runs_start, runs_left, runs_steady, runs_more}
use Rattle.merge_runs.proofs.run_by.Goals as goal

pub loop-taken-init : goal.loop-taken-init
loop-taken-init g c = runs_start c.requires

pub step-requires-clause-steady : goal.step-requires-clause-steady
step-requires-clause-steady g c =
    runs_steady c.requires c.loop-taken.invariant c.loop-taken-test.true (inl (runs_left c.requires c.loop-taken.invariant c.loop-taken-test.true).0)

pub step-requires-clause-both : goal.step-requires-clause-both
step-requires-clause-both g c = runs_left c.requires c.loop-taken.invariant c.loop-taken-test.true

pub loop-taken-preserved : goal.loop-taken-preserved
loop-taken-preserved g c = runs_more c.requires c.loop-taken.invariant c.in-Some.ensures
