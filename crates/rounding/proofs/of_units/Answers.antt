-- `rounding::of_units` meets its contract. Assumes nothing.
use Rattle.std.proofs.Common.{◌∙◌}
use Rattle.rounding.proofs.Patterns.{made}
use Rattle.rounding.proofs.of_units.Goals as goal

pub returns : goal.returns
returns c = c.value.ensures ∙ made c.args.q c.args.k c.requires.0 c.requires.1 c.requires.2
