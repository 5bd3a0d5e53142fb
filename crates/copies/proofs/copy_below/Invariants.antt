-- `copies::copy_below` meets its contract. The loop's invariant: the first k entries are below the row's next one, and are copied.
-- Assumes nothing.
use Rattle.copies.specs.Copies.{Copied}
use Rattle.copies.proofs.copy_below.Given as goal

abbrev pub invariant-loop-k : goal.invariant-loop-k
invariant-loop-k l = Copied l.initial.si l.initial.sv l.s.at l.cap l.s.n l.ib l.s.q l.k l.si l.sv
