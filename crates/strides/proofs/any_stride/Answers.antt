-- `strides::any_stride` meets its contract: copies are turns, and a run is a chain of them. Assumes nothing.
use Rattle.strides.proofs.Copies.{copied_turns}
use Rattle.strides.proofs.any_stride.Goals as goal

pub returns-then-left-eq0 : goal.returns-then-left-eq0
returns-then-left-eq0 c = copied_turns c.requires.clear c.copy_before-k.ensures c.args.row.values.now c.requires.within.0
