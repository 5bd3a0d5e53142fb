-- `sparse::first_fall` meets its contract. The loop's invariant: each of the first i indexes is above the one before. It starts at the
-- second index, also where there is none. The measure is the number of indexes left. Assumes nothing.
use Rattle.std.proofs.Common.{◌≡◌, ℕ, ◌+◌, ◌<◌, ◌≤◌, false, length}
use Rattle.sparse.specs.Calls.{falls}
use Rattle.sparse.proofs.first_fall.Given as goal

abbrev pub invariant-loop-i : goal.invariant-loop-i
invariant-loop-i l = (1 ≤ l.i) × (l.i ≤ length l.indexes + 1) × ((k : ℕ) → k < l.i → falls l.indexes k ≡ false)
