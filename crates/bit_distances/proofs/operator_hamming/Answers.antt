-- `bit_distances::operator_hamming` meets its contract: a count of bits is a float exactly. Assumes nothing.
use Rattle.bit_words.specs.declared.Op.TheVariants.{Xor}
use Rattle.bit_distances.proofs.Counts.{counted_float}
use Rattle.bit_distances.proofs.operator_hamming.Goals as goal

pub int_to_float-result : goal.int_to_float-result
int_to_float-result c = counted_float _ _ Xor c.in_ok-n.ensures
