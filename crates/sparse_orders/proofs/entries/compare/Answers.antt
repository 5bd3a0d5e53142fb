-- `entries::compare` meets its contract: the library's comparison is that of the definition. Assumes nothing.
use Rattle.std.proofs.Common.{◌∙◌}
use Rattle.sparse_orders.proofs.Floats.{compared_lem}
use Rattle.sparse_orders.proofs.entries.compare.Goals as goal

pub returns : goal.returns
returns c = c.partial_cmp.ensures ∙ compared_lem c.args.x c.args.y
