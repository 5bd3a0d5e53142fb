-- `bit_words::combine` meets its contract. The loop's invariant: the first i words are put together in front of what is left of the old output.
-- Assumes nothing.
use Rattle.std.proofs.Common.{get_or}
use Rattle.places.proofs.Below.{Wrote}
use Rattle.bit_words.specs.Ops.{join}
use Rattle.bit_words.proofs.combine.Given as goal

abbrev pub invariant-loop-i : goal.invariant-loop-i
invariant-loop-i l = Wrote (λ j. join l.op (get_or l.a j 0) (get_or l.b j 0)) l.initial.out l.out l.i
