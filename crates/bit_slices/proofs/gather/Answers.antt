-- `bit_slices::gather` meets its contract: the bits are in one word or in two neighbours, and those at and above the end are dropped. Assumes nothing.
use Rattle.std.proofs.Common.{◌≡◌, ◌+◌, ◌-◌, ◌*◌, ◌/◌, ◌%◌, arith}
use Rattle.bits.specs.Bits.{bit_at}
use Rattle.bit_slices.proofs.Joins.{upper, below}
use Rattle.bit_slices.proofs.gather.Goals as goal

pub returns-then-k-end : goal.returns-then-k-end
returns-then-k-end c = let a = c.args in
    let p : 64 * (a.from / 64) + a.from % 64 ≡ a.from = omega arith in
    rw (c.lowest.ensures, c.word_at.ensures, p)
    (below (bit_at a.words.now) a.from 64 a.end (omega arith) (omega arith) (omega arith))

pub returns : goal.returns
returns c = let a = c.args in
    let p : 64 * (a.from / 64) + a.from % 64 ≡ a.from = omega arith in
    let fits = (c.type_inv.words (a.from / 64)).fits in
    rw (c.lowest-2.ensures, upper a.words.now (a.from / 64) (a.from % 64) (omega arith) fits, p)
    (below (bit_at a.words.now) a.from (64 - a.from % 64) a.end (omega arith) (omega arith) (omega arith))
