-- `steps::met_step` meets its contract: sides that are at two places are told apart without a branch, and else both are taken. Assumes nothing.
use Rattle.std.proofs.Common.{sym, ap, ◌∙◌}
use Rattle.sparse.specs.Cells.{keep}
use Rattle.steps.proofs.Turning.{met_stepped, both_met}
use Rattle.steps.proofs.met_step.Goals as goal

pub returns : goal.returns
returns c = met_stepped c.requires.steady c.requires.both.0 c.requires.both.1 (sym c.if-i-b.false)
    (c.kept-z.ensures ∙ ap keep c.met-s.ensures ∙ sym (both_met c.args.sign _ _))
    c.put-next.ensures
