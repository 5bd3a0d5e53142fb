-- `entries` counts no more indexes and values than the lists have room for. The loop's invariant: so far it counted no more. Assumes nothing.
use Rattle.cases.specs.Room.{Inside}
use Rattle.cases.proofs.Line.entries.Given as goal

abbrev pub invariant-loop : goal.invariant-loop
invariant-loop l = Inside l.shape l.initial.indexes l.initial.values
