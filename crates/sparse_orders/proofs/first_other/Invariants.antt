-- `sparse_orders::first_other` meets its contract. The loop's invariant: the first i entries are the same. Assumes nothing.
use Rattle.sparse.specs.Vectors.{seen}
use Rattle.sparse_orders.proofs.Others.{SameFirst}
use Rattle.sparse_orders.proofs.first_other.Given as goal

abbrev pub invariant-loop-i : goal.invariant-loop-i
invariant-loop-i l = SameFirst (seen l.a) (seen l.b) l.i
