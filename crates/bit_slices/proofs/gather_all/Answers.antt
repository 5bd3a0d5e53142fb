-- `bit_slices::gather_all` meets its contract: the whole words, and then the last one. Assumes nothing.
use Rattle.std.proofs.Common.{◌≡◌, ◌+◌, ◌-◌, arith}
use Rattle.bits.specs.Bits.{bit_at}
use Rattle.bit_slices.proofs.Joins.{gathered}
use Rattle.bit_slices.proofs.gather_all.Goals as goal

pub returns : goal.returns
returns c = let a = c.args in
    let e : a.n - 1 + 1 ≡ a.n = omega arith in
    rw e at
    (gathered (bit_at a.words.now) a.start a.end (a.n - 1) a.out.now (omega arith) (omega arith)
    c.gather_whole.ensures
    c.gather.ensures)
