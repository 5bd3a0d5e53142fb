-- `folds::sum_of` meets its contract. Both loops' invariant: the walk is one over both vectors, and the sum is that of the places below
-- it. The measure is the number of entries left in both. Assumes nothing.
use Rattle.std.proofs.Common.{◌≡◌, ◌+◌, ◌-◌, length}
use Rattle.sparse.specs.Vectors.{seen}
use Rattle.sums.proofs.Summing.{Summing}
use Rattle.folds.proofs.sum_of.Given as goal

abbrev pub invariant-loop-way : goal.invariant-loop-way
invariant-loop-way g l = (l.w.a ≡ l.fn.a) × (l.w.b ≡ l.fn.b) × Summing g.S.Sum.step l.fn.start (seen l.w.a) (seen l.w.b) l.w.p l.w.q l.acc

abbrev pub decreases-loop-way : goal.decreases-loop-way
decreases-loop-way g l = length l.w.a.indexes.now + length l.w.b.indexes.now - (l.w.p + l.w.q)

abbrev pub invariant-loop-w : goal.invariant-loop-w
invariant-loop-w g l = (l.w.a ≡ l.fn.a) × (l.w.b ≡ l.fn.b) × Summing g.S.Sum.step l.fn.start (seen l.w.a) (seen l.w.b) l.w.p l.w.q l.acc

abbrev pub decreases-loop-w : goal.decreases-loop-w
decreases-loop-w g l = length l.w.a.indexes.now + length l.w.b.indexes.now - (l.w.p + l.w.q)
