-- `bit::sum_of_x` meets its contract: the ones of a vector are those of it AND itself. Assumes nothing.
use Rattle.std.proofs.Common.{◌≡◌, Ok, sym, ap, ◌∙◌}
use Rattle.refusal.specs.Answers.{Valid}
use Rattle.refusal.proofs.Told.{checked_told}
use Rattle.bits.specs.Vectors.{seen}
use Rattle.bits.specs.Calls.{checked_of}
use Rattle.bits.proofs.Pairs.{itself, alike}
use Rattle.bit_words.specs.declared.Op.TheVariants.{And}
use Rattle.bit.proofs.Pairs.{ones_dims, ones_self}
use Rattle.bit.proofs.Counted.{count_answer}
use Rattle.bit.proofs.sum_of_x.Goals as goal

pub ones_of-requires : goal.ones_of-requires
ones_of-requires c = alike (itself _ (sym (checked_told c.in_ok-check.ensures)))

pub returns : goal.returns
returns c = let passed : checked_of (seen c.args.a) ≡ Valid = sym (checked_told c.in_ok-check.ensures) in
    count_answer _ (rw passed (ap Ok (c.ones_of.ensures ∙ ones_dims And (itself _ passed) ∙ ones_self _ _)))
