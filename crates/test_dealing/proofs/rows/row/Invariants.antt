-- `row` is safe. The loop's invariant: the row has at most 12 entries. Assumes nothing.
use Rattle.std.proofs.Common.{◌≤◌}
use Rattle.test_dealing.proofs.rows.row.Given as goal

abbrev pub invariant-loop-at : goal.invariant-loop-at
invariant-loop-at l = l.len ≤ 12
