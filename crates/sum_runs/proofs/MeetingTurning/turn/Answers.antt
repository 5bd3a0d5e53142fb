-- A turn where both sides meet is a turn of the walk. Assumes nothing.
use Rattle.std.proofs.Common.{arith}
use Rattle.sums.proofs.Turns.{met_added}
use Rattle.sum_runs.proofs.MeetingTurning.turn.Goals as goal

pub returns : goal.returns
returns g c =
    let r = c.requires in
    met_added g.S.Sum.step c.args.acc c.args.w (omega (arith, r.left)) (omega (arith, r.right)) c.if-a-p.false c.add.ensures
