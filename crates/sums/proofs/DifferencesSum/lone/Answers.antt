-- A sum of squared differences takes a turn to a place that one side has alone: the value there is chosen. Assumes nothing.
use Rattle.std.proofs.Common.{nat_lt}
use Rattle.sums.specs.Loops.{differences_step}
use Rattle.sums.proofs.Quick.{difference_lone}
use Rattle.sums.proofs.Turns.{left_index, right_index, left_value, right_value, lone_added}
use Rattle.sums.proofs.DifferencesSum.lone.Goals as goal

pub returns : goal.returns
returns c = let s = c.args.self in
    let w = c.args.w in
    let h = c.requires in
    let e = c.add_alone.ensures in
    lone_added differences_step s w h.left h.right h.apart
    (difference_lone (nat_lt (left_index w) (right_index w)) s c.add_alone.result (left_value w) (right_value w) c.pick-v.result
    c.pick-v.ensures e.left e.right)
