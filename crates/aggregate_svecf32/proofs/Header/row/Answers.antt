-- `Header::row` meets its contract: where the row and the state pass their tests the state takes the row. Assumes nothing.
use Rattle.std.proofs.Common.{rules, ◌≡◌, Err, sym, ◌∙◌}
use Rattle.refusal.specs.Answers.{Valid}
use Rattle.refusal.proofs.Told.{checked_told}
use Rattle.sparse.specs.Vectors.{seen}
use Rattle.sparse.specs.Calls.{checked_of}
use Rattle.sparse.proofs.Checks.{sound}
use Rattle.regions.specs.Regions.{pair}
use Rattle.aggregate_svecf32.specs.States.{state_of}
use Rattle.aggregate_svecf32.proofs.Acting.{acts_refused}
use Rattle.aggregate_svecf32.proofs.Coming.{row_bad, row_state, row_on}
use Rattle.aggregate_svecf32.proofs.Header.row.Goals as goal
use Rattle.aggregate_svecf32.proofs.Header.row.Goals.{In_ok-check, In_ok-check-2}

-- the row passed
passed : (c : In_ok-check) → checked_of (seen c.args.row) ≡ Valid
passed c = sym (checked_told c.check.ensures) ∙ c.in_ok-check.was

-- and then the state
fair : (c : In_ok-check-2) → let a = c.args in state_of a.self.now (pair a.ai.now a.av.now) ≡ Valid
fair c = sym (checked_told c.check-2.ensures) ∙ c.in_ok-check-2.was

pub returns-in_err-check : goal.returns-in_err-check
returns-in_err-check c = let e : c.from_residual.result ≡ Err c.in_err-check.field-0.0 = search rules in
    rw e (acts_refused _ (row_bad _ _ _ (sym (checked_told c.check.ensures) ∙ c.in_err-check.was)))

pub returns-in_err-check-2 : goal.returns-in_err-check-2
returns-in_err-check-2 c = let e : c.from_residual-in_err-check-2.result ≡ Err c.in_err-check-2.field-0.0 = search rules in
    rw e
    (acts_refused _
    (row_state _ _ _ (passed (goal.at.returns-in_err-check-2 c).In_ok-check) (sym (checked_told c.check-2.ensures) ∙ c.in_err-check-2.was)))

pub take-requires : goal.take-requires
take-requires c =
    record { state = fair (goal.at.take-requires c).In_ok-check-2; row = sound _ (passed (goal.at.take-requires c).In_ok-check) }

pub returns : goal.returns
returns c = row_on _ _ _ (passed (goal.at.returns c).In_ok-check) (fair (goal.at.returns c).In_ok-check-2) c.take.ensures
