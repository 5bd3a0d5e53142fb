use native.Mathlib.Omega.{arith}
use Rattle.copies.proofs.Copies.{copied_start, copied_next}
use Rattle.copies.proofs.copy_below.Goals as goal

pub loop-k-init : goal.loop-k-init
loop-k-init c = copied_start c.requires.clear

pub loop-k-preserved : goal.loop-k-preserved
loop-k-preserved c = copied_next c.requires.clear c.loop-k.invariant (omega arith) (omega arith)
