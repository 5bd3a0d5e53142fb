-- `Header::check` meets its contract: its tests are those of the definition, in their order. Assumes nothing.
use Rattle.std.proofs.Common.{sym, ◌∙◌}
use Rattle.refusal.proofs.Told.{checked_answer}
use Rattle.aggregate_svecf32.specs.States.{state_of}
use Rattle.aggregate_svecf32.proofs.Header.check.Goals as goal

pub returns-then-not-lies_inside : goal.returns-then-not-lies_inside
unfolding state_of
returns-then-not-lies_inside c = checked_answer (rw (sym c.lies_inside.ensures ∙ c.if-not-lies_inside.true))

pub returns-then-not-is_consistent : goal.returns-then-not-is_consistent
unfolding state_of
returns-then-not-is_consistent c = checked_answer
    (rw (
      sym c.lies_inside.ensures ∙ c.if-not-lies_inside.false,
      sym c.is_consistent.ensures ∙ c.if-not-is_consistent.true,
    ))

pub returns : goal.returns
unfolding state_of
returns c = checked_answer
    (rw (
      sym c.lies_inside.ensures ∙ c.if-not-lies_inside.false,
      sym c.is_consistent.ensures ∙ c.if-not-is_consistent.false,
    ))
