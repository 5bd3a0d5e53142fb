-- `bvect::zero` meets its contract: clear words are the words of the vector without ones. Assumes nothing.
use Rattle.std.proofs.Common.{◌≡◌, false, length, arith, le-ltb}
use Rattle.refusal.proofs.Dims.{some, in_range}
use Rattle.bits.specs.Bits.{words_for}
use Rattle.bits.specs.Calls.{bad_dims}
use Rattle.bvect.proofs.Slices.{none_writes}
use Rattle.bvect.proofs.zero.Goals as goal

pub returns : goal.returns
returns c = let a = c.args in
    let good : bad_dims a.dims ≡ false = in_range 65535 a.dims (some _ c.if-dims-eq0.false) (omega arith) in
    let room = le-ltb (length a.out.now) (words_for a.dims) (omega arith) in
    none_writes _ (rw (good, room)) c.words_for-len.ensures c.clear.ensures
