-- `strides::run` meets its contract. The loop's invariant: so many turns lead from where it began to where it is (`Runs`). Assumes nothing.
use Rattle.strides.proofs.Chains.{Runs}
use Rattle.strides.proofs.run.Given as goal

abbrev pub invariant-loop-turns : goal.invariant-loop-turns
invariant-loop-turns l = Runs l.initial.si l.initial.sv l.fn.s l.cap l.row.indexes.now l.row.values.now l.si l.sv l.step l.turns
