-- `sparse::all_rise` meets its contract. The loop's invariant: if the highest bit is set in `all` and not in `any`, each of the first i
-- indexes is above the one before. The measure is the number of indexes left. Assumes nothing.
use Rattle.sparse.proofs.Falls.{Risen}
use Rattle.sparse.proofs.all_rise.Given as goal

abbrev pub invariant-loop-i : goal.invariant-loop-i
invariant-loop-i l = Risen l.indexes l.all l.any l.i
