-- `line` meets its contract, by whether there is a newline and whether it is near. Assumes nothing.
use Rattle.std.proofs.Common.{sym, ◌∙◌}
use Rattle.reading.proofs.Ends.{no_newline, near, far}
use Rattle.reading.proofs.Input.line.Goals as goal

pub returns-in_err-end : goal.returns-in_err-end
returns-in_err-end c = rw c.from_residual.ensures (no_newline _ (sym c.find.ensures ∙ c.in_err-end.was))

pub returns-then-end-lt-LONGEST : goal.returns-then-end-lt-LONGEST
returns-then-end-lt-LONGEST c = near _ (sym c.find.ensures ∙ c.in_ok-end.was) c.if-end-lt-LONGEST.true

pub returns : goal.returns
returns c = far _ (sym c.find.ensures ∙ c.in_ok-end.was) c.if-end-lt-LONGEST.false
