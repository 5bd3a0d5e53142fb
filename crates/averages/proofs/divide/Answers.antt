use Rattle.std.proofs.Common.{arith}
use Rattle.averages.proofs.Shares.{dividing_start, dividing_more, dividing_four, dividing_done}
use Rattle.averages.proofs.divide.Goals as goal

pub loop-p-init : goal.loop-p-init
loop-p-init c = dividing_start

pub loop-p-preserved : goal.loop-p-preserved
loop-p-preserved c = let by = c.of_u64-by.ensures in
    let none = rw (c.if-not-none_zero.false, by) at c.none_zero.ensures in
    dividing_four c.requires c.loop-p.invariant (omega (arith, c.loop-p-test)) none
    c.copy_from_slice.ensures.after
    (rw by at c.copy_from_slice-in-loop-p.ensures.after)

pub loop-i-preserved : goal.loop-i-preserved
loop-i-preserved c =
    dividing_more c.requires c.loop-i.invariant (omega arith) (rw c.of_u64-by.ensures at c.kept-z.ensures) c.put-n.ensures

pub returns : goal.returns
returns c = dividing_done c.requires c.loop-i.invariant (omega arith)
