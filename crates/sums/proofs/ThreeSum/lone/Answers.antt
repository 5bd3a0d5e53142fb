-- Three sums take a turn to a place that one side has alone. Assumes nothing.
use Rattle.std.proofs.Common.{arith}
use Rattle.sums.specs.Sums.{three_step}
use Rattle.sums.proofs.Turns.{left_added, right_added}
use Rattle.sums.proofs.ThreeSum.lone.Goals as goal

pub returns-then-a-p : goal.returns-then-a-p
returns-then-a-p c = let h = c.requires in
    left_added three_step c.args.self c.args.w h.left h.right c.if-a-p.true c.add.ensures

pub returns : goal.returns
returns c = let h = c.requires in
    right_added three_step c.args.self c.args.w h.left h.right (omega (arith, c.if-a-p.false, h.apart)) c.add-2.ensures
