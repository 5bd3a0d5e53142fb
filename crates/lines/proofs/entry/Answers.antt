-- `entry` meets its contract: by what is before the colon and after it. Assumes nothing.
use Rattle.std.proofs.Common.{sym, ◌∙◌}
use Rattle.lines.proofs.Words.{no_colon, no_bits, two_parts}
use Rattle.lines.proofs.entry.Goals as goal

pub returns-in_err-colon : goal.returns-in_err-colon
returns-in_err-colon c = rw (no_colon _ (sym c.find.ensures ∙ c.in_err-colon.was)) c.from_residual.ensures

pub returns-in_err-index : goal.returns-in_err-index
returns-in_err-index c =
    rw (two_parts _ (sym c.find.ensures ∙ c.in_ok-colon.was), sym c.decimal.ensures ∙ c.in_err-index.was) c.from_residual-in_err-index.ensures

pub returns-in_err-bits : goal.returns-in_err-bits
returns-in_err-bits c =
    rw (two_parts _ (sym c.find.ensures ∙ c.in_ok-colon.was), sym c.bits.ensures ∙ c.in_err-bits.was, no_bits) c.from_residual-in_err-bits.ensures

pub returns : goal.returns
returns c =
    rw (two_parts _ (sym c.find.ensures ∙ c.in_ok-colon.was), sym c.decimal.ensures ∙ c.in_ok-index.was, sym c.bits.ensures ∙ c.in_ok-bits.was)
