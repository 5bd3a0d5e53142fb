-- `number` meets its contract. The measure is how many digits are left. Assumes nothing.
use Rattle.texts.proofs.Line.+number.Given as goal

abbrev pub decreases-number : goal.decreases-number
decreases-number l = l.k
