-- `steps::mul_step` meets its contract: where the sides are at two places the first of them is passed, and else both are. Assumes nothing.
use Rattle.std.proofs.Common.{sym}
use Rattle.steps.proofs.Turning.{met_stepped, none_stepped}
use Rattle.steps.proofs.mul_step.Goals as goal

pub returns-then-i-j : goal.returns-then-i-j
returns-then-i-j c = none_stepped c.requires.steady c.requires.both.0 c.requires.both.1 c.if-i-j.true

pub returns : goal.returns
returns c = met_stepped c.requires.steady c.requires.both.0 c.requires.both.1 (sym c.if-i-j.false) c.kept-z.ensures c.put-next.ensures
