-- `Header::is_consistent` meets its contract: the test of a header that has begun, or of one that has not. Assumes nothing.
use Rattle.aggregate_svecf32.specs.States.{consistent}
use Rattle.aggregate_svecf32.proofs.Header.is_consistent.Goals as goal

pub returns-then-self : goal.returns-then-self
unfolding consistent
returns-then-self c = rw c.if-self.true (rw c.numbers-numbers.ensures at c.is_begun_fairly.ensures)

pub returns-else-self : goal.returns-else-self
unfolding consistent
returns-else-self c = rw c.if-self.false (rw c.numbers-numbers.ensures at c.is_all_zero.ensures)
