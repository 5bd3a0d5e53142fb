-- `strides::store_step` meets its contract: whichever side is next, its entry is stored, and its side has passed it. Assumes nothing.
use Rattle.strides.proofs.Steps.{stored}
use Rattle.strides.proofs.store_step.Goals as goal

pub returns : goal.returns
returns c = rw (c.min.ensures, c.value_at-v.ensures) (stored c.requires.meeting c.requires.stores)
