-- `Header::ready_to_write` meets its contract: its tests are those of the definition, in their order. Assumes nothing.
use Rattle.std.proofs.Common.{rules, ◌≡◌, Err, sym, ◌∙◌}
use borrow.Author.Tests.{not-false, not-true}
use Rattle.refusal.specs.Answers.{Valid}
use Rattle.refusal.proofs.Told.{checked_answer, checked_told}
use Rattle.sparse.proofs.Writes.{room_indexes, room_values, room_enough}
use Rattle.regions.specs.Regions.{both}
use Rattle.aggregate_svecf32.specs.States.{state_of}
use Rattle.aggregate_svecf32.specs.Calls.{finish_of}
use Rattle.aggregate_svecf32.proofs.Header.ready_to_write.Goals as goal
use Rattle.aggregate_svecf32.proofs.Header.ready_to_write.Goals.{In_ok-check, then-indexes-self-via-then-indexes-self, then-indexes-self-via-else-indexes-self+then-values-self}

-- the state passed
passed : (c : In_ok-check) → state_of c.args.self (both c.args.lists) ≡ Valid
passed c = sym (checked_told c.check.ensures) ∙ c.in_ok-check.was

pub returns-in_err-check : goal.returns-in_err-check
unfolding finish_of
returns-in_err-check c = let e : c.from_residual.result ≡ Err c.in_err-check.field-0.0 = search rules in
    rw e (checked_answer (rw (sym (checked_told c.check.ensures) ∙ c.in_err-check.was)))

pub returns-then-not-self : goal.returns-then-not-self
unfolding finish_of
returns-then-not-self c = checked_answer (rw (passed (goal.at.returns-then-not-self c).In_ok-check, not-true c.args.self.begun c.if-not-self.true))

pub returns-then-indexes-self : goal.returns-then-indexes-self
unfolding finish_of
returns-then-indexes-self c =
    let t = passed (goal.at.returns-then-indexes-self c).In_ok-check in
    let b = not-false _ c.if-not-self.false in
    let a = c.args in
    elim c.then-indexes-self.branch [
      | then-indexes-self-via-then-indexes-self w ↦ checked_answer (rw (t, b, room_indexes a.self.len a.indexes a.values w.if-indexes-self.true))
      | then-indexes-self-via-else-indexes-self+then-values-self w ↦
          checked_answer (rw (t, b, room_values a.self.len a.indexes a.values w.if-values-self.true))
    ]

pub returns : goal.returns
unfolding finish_of
returns c = let a = c.args in
    checked_answer
    (rw (
      passed (goal.at.returns c).In_ok-check,
      not-false _ c.if-not-self.false,
      room_enough a.self.len a.indexes a.values c.if-indexes-self.false c.if-values-self.false,
    ))
