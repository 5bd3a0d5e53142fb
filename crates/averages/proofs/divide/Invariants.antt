-- `averages::divide` meets its contract. The loops' invariant: the quotients of the entries passed are written, without the zeros among them.
-- The measure of the first is the number of entries left. Assumes nothing.
use Rattle.std.proofs.Common.{◌-◌, length}
use Rattle.sparse.specs.Vectors.{vector}
use Rattle.averages.proofs.Shares.{Dividing}
use Rattle.averages.proofs.divide.Given as goal

abbrev pub invariant-loop-p : goal.invariant-loop-p
invariant-loop-p l = Dividing l.count (vector l.fn.v.dims l.indexes l.values) l.fn.oi l.fn.ov l.oi l.ov l.p l.n

abbrev pub decreases-loop-p : goal.decreases-loop-p
decreases-loop-p l = length l.indexes - l.p

abbrev pub invariant-loop-i : goal.invariant-loop-i
invariant-loop-i l = Dividing l.count (vector l.fn.v.dims l.indexes l.values) l.fn.oi l.fn.ov l.oi l.ov l.i l.n
