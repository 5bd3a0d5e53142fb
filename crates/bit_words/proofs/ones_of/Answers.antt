use Rattle.bit_words.proofs.Ones.{ones_none, ones_more}
use Rattle.bit_words.proofs.ones_of.Goals as goal

pub loop-i-init : goal.loop-i-init
loop-i-init c = ones_none

pub loop-i-preserved : goal.loop-i-preserved
loop-i-preserved c = let i = c.loop-i.i in
    ones_more c.loop-i.invariant (c.type_inv.a i).fits (c.type_inv.b i).fits c.joined.ensures c.ones_in-n.ensures
