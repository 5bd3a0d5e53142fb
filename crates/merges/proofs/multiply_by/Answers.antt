use Rattle.std.proofs.Common.{refl}
use Rattle.std.proofs.lemmas.Bool.{iff_false}
use Rattle.merges.proofs.Common.{multiplied_start, multiplied_steady, multiplied_more, multiplied_end}
use Rattle.merges.proofs.multiply_by.Goals as goal

pub loop-w-init : goal.loop-w-init
loop-w-init g c = rw c.start-w.ensures multiplied_start

pub mul_step-s-requires-clause-steady : goal.mul_step-s-requires-clause-steady
mul_step-s-requires-clause-steady g c = multiplied_steady c.requires c.loop-w.invariant (c.loop-w-test.ensures.0 refl)

pub loop-w-preserved : goal.loop-w-preserved
loop-w-preserved g c =
    multiplied_more c.requires c.loop-w.invariant (c.loop-w-test.ensures.0 refl) c.mul_step-s.ensures c.pass-left.ensures c.pass-right.ensures

pub returns : goal.returns
returns g c = multiplied_end c.requires c.loop-w.invariant (iff_false c.loop-w-test.ensures refl)
