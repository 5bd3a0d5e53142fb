-- `bit_slices::lowest` meets its contract: what is shifted out at the top is gone. Assumes nothing.
use Rattle.std.proofs.Common.{arith}
use Rattle.bit_slices.proofs.Joins.{shl_shr_low}
use Rattle.bit_slices.proofs.lowest.Goals as goal

pub returns : goal.returns
returns c = shl_shr_low c.args.word c.args.used _ (omega arith)
