-- `bit_words::ones_of` meets its contract. The loop's invariant: n is the number of ones in the first i words put together, 64 places each.
-- Assumes nothing.
use Rattle.bit_words.proofs.Ones.{FirstOnes}
use Rattle.bit_words.proofs.ones_of.Given as goal

abbrev pub invariant-loop-i : goal.invariant-loop-i
invariant-loop-i l = FirstOnes l.op l.a l.b l.i l.n
