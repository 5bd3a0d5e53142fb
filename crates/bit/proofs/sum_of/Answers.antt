-- `bit::sum_of` meets its contract: of checked vectors all words are counted, and the padding adds nothing. Assumes nothing.
use Rattle.std.proofs.Common.{◌≡◌, sym}
use Rattle.refusal.specs.Answers.{Valid}
use Rattle.refusal.proofs.Told.{checked_told}
use Rattle.bits.specs.Vectors.{seen}
use Rattle.bits.specs.Calls.{pair_of}
use Rattle.bits.proofs.Pairs.{pair_sound, alike}
use Rattle.bit.proofs.Pairs.{ones_dims}
use Rattle.bit.proofs.Counted.{count_answer}
use Rattle.bit.proofs.sum_of.Goals as goal

pub ones_of-requires : goal.ones_of-requires
ones_of-requires c = alike (pair_sound _ _ (sym (checked_told c.in_ok-check_pair.ensures)))

pub returns : goal.returns
returns c = let passed : pair_of (seen c.args.a) (seen c.args.b) ≡ Valid = sym (checked_told c.in_ok-check_pair.ensures) in
    count_answer _ (rw (passed, c.ones_of.ensures, ones_dims c.args.op (pair_sound _ _ passed)))
