-- `bit_slices::join` meets its contract: the two shifts come to 64. Assumes nothing.
use Rattle.std.proofs.Common.{arith}
use Rattle.bit_slices.proofs.Joins.{joins}
use Rattle.bit_slices.proofs.join.Goals as goal

pub returns : goal.returns
returns c = joins _ _ _ _ (omega arith) (omega arith)
