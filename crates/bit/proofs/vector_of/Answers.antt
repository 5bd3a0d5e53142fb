-- `bit::vector_of` meets its contract: of checked vectors the words put together are those of the bits put together. Assumes nothing.
use Rattle.std.proofs.Common.{◌≡◌, length, sym, ◌∙◌, arith, lt-ltb, le-ltb}
use Rattle.places.proofs.Below.{length_below}
use Rattle.refusal.specs.Answers.{Valid}
use Rattle.refusal.proofs.Told.{checked_told, refused_writes, done_writes}
use Rattle.bits.specs.Bits.{words_for}
use Rattle.bits.specs.Vectors.{seen}
use Rattle.bits.specs.Calls.{pair_of}
use Rattle.bits.proofs.Pairs.{pair_sound, alike}
use Rattle.bit.proofs.Pairs.{joins_words}
use Rattle.bit.proofs.vector_of.Goals as goal

pub returns-then-out-len : goal.returns-then-out-len
returns-then-out-len c = let a = c.args in
    let passed : pair_of (seen a.a) (seen a.b) ≡ Valid = sym (checked_told c.in_ok-check_pair.ensures) in
    let long = (pair_sound _ _ passed).left.long in
    let small = lt-ltb (length a.out.now) (words_for a.a.dims) (omega (arith, long)) in
    refused_writes _ _ (rw (passed, small, long))

pub combine-requires-clause-alike : goal.combine-requires-clause-alike
combine-requires-clause-alike c = alike (pair_sound _ _ (sym (checked_told c.in_ok-check_pair.ensures)))

pub returns : goal.returns
returns c = let a = c.args in
    let passed : pair_of (seen a.a) (seen a.b) ≡ Valid = sym (checked_told c.in_ok-check_pair.ensures) in
    let p = pair_sound _ _ passed in
    let long = p.left.long in
    let room = le-ltb (length a.out.now) (words_for a.a.dims) (omega (arith, long)) in
    let words = joins_words a.op p _ (λ j. rw c.combine.ensures at (c.type_inv.out j).fits) in
    done_writes _ _ (rw (passed, room)) (long ∙ sym (length_below _ (words_for a.a.dims))) (rw words at c.combine.ensures)
