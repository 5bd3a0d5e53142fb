-- `bvect::partial_cmp` meets its contract: the words decide as the bits below dims do, since the padding is clear. Assumes nothing.
use Rattle.std.proofs.Common.{◌≡◌, sym, eq-eqb}
use Rattle.refusal.specs.Answers.{Valid}
use Rattle.refusal.proofs.Told.{checked_told, order_answer}
use Rattle.bits.specs.Vectors.{seen}
use Rattle.bits.specs.Calls.{each_of}
use Rattle.bits.proofs.Pairs.{each_sound, pair_of_lem, alike}
use Rattle.bit_orders.proofs.Orders.{order_dims}
use Rattle.bvect.proofs.partial_cmp.Goals as goal

pub compare_all-requires : goal.compare_all-requires
compare_all-requires c = alike (pair_of_lem (each_sound _ _ (sym (checked_told c.in_ok-check_each.ensures))) c.if-a-b.false)

pub returns : goal.returns
returns c = let passed : each_of (seen c.args.a) (seen c.args.b) ≡ Valid = sym (checked_told c.in_ok-check_each.ensures) in
    let pair = pair_of_lem (each_sound _ _ passed) c.if-a-b.false in
    order_answer _ (rw (passed, eq-eqb _ _ pair.equal, order_dims pair, c.compare_all.ensures))
