-- A sum of products takes a turn to a place that one side has alone: nothing is added. Assumes nothing.
use Rattle.std.proofs.Common.{nat_lt}
use Rattle.sums.specs.Loops.{products_step}
use Rattle.sums.proofs.Quick.{product_lone}
use Rattle.sums.proofs.Turns.{left_index, right_index, left_value, right_value, lone_added}
use Rattle.sums.proofs.ProductsSum.lone.Goals as goal

pub returns : goal.returns
returns c = let s = c.args.self in
    let w = c.args.w in
    let h = c.requires in
    lone_added products_step s w h.left h.right h.apart
    (product_lone (nat_lt (left_index w) (right_index w)) s (left_value w) (right_value w))
