-- `bit_orders::compare_all` meets its contract. The loop's invariant: the first i words are the same. Assumes nothing.
use Rattle.bit_orders.proofs.Orders.{SameFirst}
use Rattle.bit_orders.proofs.compare_all.Given as goal

abbrev pub invariant-loop-i : goal.invariant-loop-i
invariant-loop-i l = SameFirst l.a l.b l.i
