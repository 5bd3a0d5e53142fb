use Rattle.std.proofs.Common.{refl}
use Rattle.std.proofs.lemmas.Bool.{iff_false}
use Rattle.merges.proofs.Turning.{walked_start, walked_on, walked_out, walked_more, walked_end, walked_few}
use Rattle.merges.proofs.merge.Goals as goal

pub loop-way-init : goal.loop-way-init
loop-way-init c = rw c.start-w.ensures walked_start

pub any_run-r-requires : goal.any_run-r-requires
any_run-r-requires c = walked_on c.args.sign c.requires c.loop-way.invariant (c.loop-way-test.ensures.0 refl)

pub way_on-way-requires : goal.way_on-way-requires
way_on-way-requires c = walked_few c.args.sign c.requires c.loop-way.invariant c.any_run-r.ensures.ran

pub loop-way-preserved : goal.loop-way-preserved
loop-way-preserved c = walked_more c.args.sign c.requires c.loop-way.invariant c.any_run-r.ensures.ran

pub finish-r-requires : goal.finish-r-requires
finish-r-requires c = walked_out c.args.sign c.requires c.loop-way.invariant (iff_false c.loop-way-test.ensures refl)

pub returns : goal.returns
returns c = walked_end c.args.sign c.requires c.loop-way.invariant c.finish-r.ensures.ran c.finish-r.ensures.ended
