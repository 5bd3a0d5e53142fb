use Rattle.std.proofs.Common.{arith}
use Rattle.places.proofs.Below.{wrote_none, wrote_more}
use Rattle.bit_words.proofs.combine.Goals as goal

pub loop-i-init : goal.loop-i-init
loop-i-init c = wrote_none

pub loop-i-preserved : goal.loop-i-preserved
loop-i-preserved c = wrote_more c.loop-i.invariant (omega arith) c.joined.ensures
