-- `bit::sum_of_and_or` meets its contract, as `sum_of` does, for both counts. Assumes nothing.
use Rattle.std.proofs.Common.{◌≡◌, Ok, sym, ap, ap₂, ◌∙◌}
use Rattle.refusal.specs.Answers.{Valid}
use Rattle.refusal.proofs.Told.{checked_told}
use Rattle.bits.specs.Vectors.{seen}
use Rattle.bits.specs.Calls.{pair_of}
use Rattle.bits.proofs.Pairs.{pair_sound, alike}
use Rattle.bit_words.specs.declared.Op.TheVariants.{And, Or}
use Rattle.bit.specs.Calls.{two}
use Rattle.bit.proofs.Pairs.{ones_dims}
use Rattle.bit.proofs.Counted.{counts_answer}
use Rattle.bit.proofs.sum_of_and_or.Goals as goal

pub ones_of_both-requires : goal.ones_of_both-requires
ones_of_both-requires c = alike (pair_sound _ _ (sym (checked_told c.in_ok-check_pair.ensures)))

pub returns : goal.returns
returns c = let passed : pair_of (seen c.args.a) (seen c.args.b) ≡ Valid = sym (checked_told c.in_ok-check_pair.ensures) in
    let p = pair_sound _ _ passed in
    let n = c.ones_of_both.ensures in
    counts_answer _ _ (rw passed (ap Ok (ap₂ two (n.0 ∙ ones_dims And p) (n.1 ∙ ones_dims Or p))))
