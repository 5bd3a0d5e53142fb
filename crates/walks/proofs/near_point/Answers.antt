use Rattle.std.proofs.Common.{◌+◌, ◌-◌, arith}
use Rattle.walks.proofs.Halves.{Range, lower, found}
use Rattle.walks.proofs.near_point.Goals as goal
use Rattle.walks.proofs.near_point.Goals.{Then-place-indexes}

-- where the last step is too long: what it passes over is the range
near : (c : Then-place-indexes)
    → Range c.args.indexes.now c.args.place c.loop-low.low (c.loop-low.low + c.loop-low.step - 1)
near c =
    lower c.loop-low.invariant.0 c.requires (omega arith) (omega arith) (omega arith)

pub returns-then-place-indexes : goal.returns-then-place-indexes
returns-then-place-indexes c = found (near (goal.at.returns-then-place-indexes c).Then-place-indexes) c.partition_point.ensures

pub returns : goal.returns
returns c = found c.loop-low.invariant.0 c.partition_point-2.ensures
