-- A turn without a branch is a turn of the walk. Assumes nothing.
use Rattle.std.proofs.Common.{arith}
use Rattle.sums.proofs.Turns.{quick_added}
use Rattle.sum_runs.proofs.QuickTurning.turn.Goals as goal

pub returns : goal.returns
returns g c = let r = c.requires in quick_added g.S.Sum.step c.args.acc c.args.w (omega (arith, r.left)) (omega (arith, r.right)) c.quick.ensures
