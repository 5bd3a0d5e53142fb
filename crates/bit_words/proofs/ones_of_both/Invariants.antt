-- `bit_words::ones_of_both` meets its contract. The loop's invariant: the two numbers are those of the first i words. Assumes nothing.
use Rattle.bit_words.proofs.Ones.{FirstOnes}
use Rattle.bit_words.specs.declared.Op.TheVariants.{And, Or}
use Rattle.bit_words.proofs.ones_of_both.Given as goal

abbrev pub invariant-loop-i : goal.invariant-loop-i
invariant-loop-i l = FirstOnes And l.a l.b l.i l.and × FirstOnes Or l.a l.b l.i l.or
