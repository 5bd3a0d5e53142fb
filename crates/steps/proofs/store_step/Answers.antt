-- `steps::store_step` meets its contract: whichever side is next, its entry is stored, and its side has passed it. Assumes nothing.
use Rattle.steps.proofs.Turning.{stored}
use Rattle.steps.proofs.store_step.Goals as goal

pub returns : goal.returns
returns c = rw (c.min.ensures, c.value_at.ensures, c.met-s.ensures, c.alone.ensures) (stored c.requires.steady c.args.sign c.requires.stores)
