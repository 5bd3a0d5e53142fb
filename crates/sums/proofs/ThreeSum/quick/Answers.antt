-- Three sums take the place of the smaller index: each takes its step. Assumes nothing.
use Rattle.std.proofs.Common.{rules, nat_eq, nat_lt}
use Rattle.sums.proofs.Quick.{three_next}
use Rattle.sums.proofs.ThreeSum.quick.Goals as goal

pub returns : goal.returns
returns c = let t = c.args in
    rw (c.quick.ensures, c.value_at.ensures, c.value_at-2.ensures)
    (three_next (nat_eq t.i t.j) (nat_lt t.i t.j) t.self t.x t.y (search rules) (search rules))
