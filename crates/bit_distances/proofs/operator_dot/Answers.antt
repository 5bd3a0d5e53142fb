-- `bit_distances::operator_dot` meets its contract: a count of bits is a float exactly, and is negated. Assumes nothing.
use Rattle.bit_words.specs.declared.Op.TheVariants.{And}
use Rattle.bit_distances.proofs.Counts.{counted_float}
use Rattle.bit_distances.proofs.operator_dot.Goals as goal

pub int_to_float-result : goal.int_to_float-result
int_to_float-result c = counted_float _ _ And c.in_ok-n.ensures
