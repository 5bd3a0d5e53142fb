-- `Header::combine` meets its contract: where both states pass their tests the first takes the entries of the second. Assumes nothing.
use Rattle.std.proofs.Common.{rules, ◌≡◌, Err, sym, ◌∙◌}
use borrow.Author.Tests.{not-true, not-false}
use Rattle.refusal.specs.Answers.{Valid}
use Rattle.refusal.proofs.Told.{checked_told}
use Rattle.regions.specs.Regions.{pair, both}
use Rattle.aggregate_svecf32.specs.States.{state_of}
use Rattle.aggregate_svecf32.proofs.Consistent.{Sure, state_sure}
use Rattle.aggregate_svecf32.proofs.Held.{ends_inside}
use Rattle.aggregate_svecf32.proofs.Acting.{acts_refused}
use Rattle.aggregate_svecf32.proofs.Coming.{combine_bad, combine_state, combine_none, combine_on}
use Rattle.aggregate_svecf32.proofs.Header.combine.Goals as goal
use Rattle.aggregate_svecf32.proofs.Header.combine.Goals.{Else-not-other, In_ok-check, In_ok-check-2}

-- the second state passed
passed : (c : In_ok-check) → state_of c.args.other (both c.args.lists) ≡ Valid
passed c = sym (checked_told c.check.ensures) ∙ c.in_ok-check.was

-- and then the first
fair : (c : In_ok-check-2) → let a = c.args in state_of a.self.now (pair a.ai.now a.av.now) ≡ Valid
fair c = sym (checked_told c.check-2.ensures) ∙ c.in_ok-check-2.was

-- the second has begun
second : (c : Else-not-other) → Sure c.args.other (both c.args.lists)
second c = state_sure _ _ (passed (goal.at.Else-not-other c).In_ok-check) (not-false _ c.if-not-other.false)

pub returns-in_err-check : goal.returns-in_err-check
returns-in_err-check c = let e : c.from_residual.result ≡ Err c.in_err-check.field-0.0 = search rules in
    rw e (acts_refused _ (combine_bad _ _ _ _ (sym (checked_told c.check.ensures) ∙ c.in_err-check.was)))

pub returns-in_err-check-2 : goal.returns-in_err-check-2
returns-in_err-check-2 c = let e : c.from_residual-in_err-check-2.result ≡ Err c.in_err-check-2.field-0.0 = search rules in
    rw e
    (acts_refused _
    (combine_state _ _ _ _ (passed (goal.at.returns-in_err-check-2 c).In_ok-check) (sym (checked_told c.check-2.ensures) ∙ c.in_err-check-2.was)))

pub returns-then-not-other : goal.returns-then-not-other
returns-then-not-other c = let s = goal.at.returns-then-not-other c in
    combine_none _ _ _ _ (passed s.In_ok-check) (fair s.In_ok-check-2) (not-true _ c.if-not-other.true)

pub vector-held-requires-clause-indexes : goal.vector-held-requires-clause-indexes
vector-held-requires-clause-indexes c = (ends_inside (second (goal.at.vector-held-requires-clause-indexes c).Else-not-other)).0

pub vector-held-requires-clause-values : goal.vector-held-requires-clause-values
vector-held-requires-clause-values c = (ends_inside (second (goal.at.vector-held-requires-clause-values c).Else-not-other)).1

pub take-requires : goal.take-requires
take-requires c = let s = goal.at.take-requires c in
    record { state = fair s.In_ok-check-2; row = rw c.vector-held.ensures (second s.Else-not-other).fair.sound }

pub returns : goal.returns
returns c = let s = goal.at.returns c in
    combine_on _ _ _ _ (passed s.In_ok-check) (fair s.In_ok-check-2) (not-false _ c.if-not-other.false) c.vector-held.ensures c.take.ensures
