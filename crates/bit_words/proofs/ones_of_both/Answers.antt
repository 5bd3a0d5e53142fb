use Rattle.bit_words.proofs.Ones.{ones_none, ones_more}
use Rattle.bit_words.proofs.ones_of_both.Goals as goal

pub loop-i-init : goal.loop-i-init
loop-i-init c = (ones_none, ones_none)

pub loop-i-preserved : goal.loop-i-preserved
loop-i-preserved c = let n = c.loop-i.invariant in
    let x = (c.type_inv.a c.loop-i.i).fits in
    let y = (c.type_inv.b c.loop-i.i).fits in (
      ones_more n.0 x y c.joined.ensures c.ones_in-and.ensures,
      ones_more n.1 x y c.joined-in-loop-i.ensures c.ones_in-or.ensures,
    )
