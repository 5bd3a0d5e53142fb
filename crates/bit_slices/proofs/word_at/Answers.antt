-- `bit_slices::word_at` meets its contract: one word, or two neighbours. Assumes nothing.
use Rattle.std.proofs.Common.{◌≡◌, ◌+◌, ◌*◌, ◌∙◌, arith}
use Rattle.bit_slices.proofs.Joins.{own, neighbours}
use Rattle.bit_slices.proofs.word_at.Goals as goal

pub returns-then-shift-eq0 : goal.returns-then-shift-eq0
returns-then-shift-eq0 c = let a = c.args in
    let e : 64 * a.k + a.shift ≡ 64 * a.k = omega arith in
    rw e (own a.words.now a.k (c.type_inv.words a.k).fits)

pub returns : goal.returns
returns c = let a = c.args in
    c.join.ensures
    ∙ neighbours a.words.now a.k a.shift (omega arith) (c.type_inv.words a.k).fits (c.type_inv.words (a.k + 1)).fits
