-- `bit_slices::clear` meets its contract: what was filled is n clear words. Assumes nothing.
use Rattle.bit_slices.proofs.Joins.{cleared}
use Rattle.bit_slices.proofs.clear.Goals as goal

pub returns : goal.returns
returns c = let a = c.args in
    rw (cleared a.n a.out.now c.requires (c.fill.ensures.after (λ y e. e)))
