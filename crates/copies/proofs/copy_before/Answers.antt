-- `copies::copy_before` meets its contract: the entries that were found are copied at once. Assumes nothing.
use Rattle.copies.proofs.Copies.{copied_found}
use Rattle.copies.proofs.copy_before.Goals as goal

pub returns : goal.returns
returns c = copied_found c.requires c.count_before-k.ensures c.copy_within.ensures.after c.copy_within-2.ensures.after
