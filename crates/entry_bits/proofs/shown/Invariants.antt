-- `shown` meets its contract. The loop's invariant: the bits of the first i entries are written. Assumes nothing.
use Rattle.std.proofs.Common.{get_or}
use Rattle.places.proofs.Below.{Wrote}
use Rattle.entry_bits.specs.Operands.{lent, shown}
use Rattle.entry_bits.proofs.shown.Given as goal

abbrev pub invariant-loop-i : goal.invariant-loop-i
invariant-loop-i l = Wrote (λ j. get_or (shown l.op (lent l.a) (lent l.b) l.given.indexes.now l.given.values.now) j 0) l.initial.out l.out l.i
