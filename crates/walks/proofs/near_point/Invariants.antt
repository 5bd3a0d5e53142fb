-- `walks::near_point` meets its contract. The loop's invariant: the entries before `low` have indexes below the place, and the next step is at
-- most one longer than what was passed. The measure is the number of entries from `low` on. Assumes nothing.
use Rattle.std.proofs.Common.{◌+◌, ◌-◌, ◌≤◌, length}
use Rattle.walks.proofs.Halves.{Range}
use Rattle.walks.proofs.near_point.Given as goal

abbrev pub invariant-loop-low : goal.invariant-loop-low
invariant-loop-low l = Range l.indexes l.place l.low (length l.indexes) × (1 ≤ l.step) × (l.step ≤ l.low + 1)

abbrev pub decreases-loop-low : goal.decreases-loop-low
decreases-loop-low l = length l.indexes - l.low
