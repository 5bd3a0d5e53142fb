use Rattle.std.proofs.Common.{refl, arith}
use Rattle.places.proofs.Below.{wrote_none, wrote_more}
use Rattle.sparse_slices.proofs.move_indexes.Goals as goal

pub loop-j-init : goal.loop-j-init
loop-j-init c = wrote_none

pub loop-j-preserved : goal.loop-j-preserved
loop-j-preserved c = wrote_more c.loop-j.invariant (omega (arith, c.requires.room)) refl
