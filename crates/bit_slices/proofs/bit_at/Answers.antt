-- `bit_slices::bit_at` meets its contract: the code reads what the definition says. Assumes nothing.
use Rattle.std.proofs.Common.{refl}
use Rattle.bits.specs.Bits.{bit_of, bit_at}
use Rattle.bit_slices.proofs.bit_at.Goals as goal

pub returns : goal.returns
unfolding bit_at bit_of
returns c = refl
