-- `bits_at` meets its contract: the search finds the first entry with the index. Assumes nothing.
use Rattle.std.proofs.Common.{sym, ◌∙◌}
use Rattle.entry_bits.specs.Operands.{lent}
use Rattle.entry_bits.proofs.Printed.{no_entry, an_entry}
use Rattle.entry_bits.proofs.bits_at.Goals as goal

pub returns-in_err-at : goal.returns-in_err-at
returns-in_err-at c = c.from_residual.ensures ∙ sym (no_entry (lent c.args.a) _ (sym c.find.ensures ∙ c.in_err-at.was))

pub returns : goal.returns
returns c = sym (an_entry (lent c.args.a) _ (sym c.find.ensures ∙ c.in_ok-at.was))
