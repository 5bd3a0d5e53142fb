-- `Header::ready_to_move` meets its contract: its tests are those of the definition, in their order. Assumes nothing.
use mathlib.Core.Bool.{true, false}
use mathlib.Core.Path.{◌≡◌, sym, ap, ◌∙◌}
use Rattle.std.proofs.Common.{ℕ, Err, length, ltb, rules}
use borrow.Author.Tests.{lt-ltb, le-ltb, not-false, not-true}
use Rattle.refusal.specs.Answers.{Valid}
use Rattle.refusal.specs.declared.Refusal.TheVariants.{Room}
use Rattle.refusal.proofs.Told.{checked_answer, checked_told}
use Rattle.regions.specs.Regions.{both, within}
use Rattle.aggregate_svecf32.specs.States.{state_of}
use Rattle.aggregate_svecf32.specs.Calls.{spare, move_of}
use Rattle.aggregate_svecf32.proofs.Consistent.{Sure, state_sure}
use Rattle.aggregate_svecf32.proofs.Moved.{sure_few}
use Rattle.aggregate_svecf32.proofs.Header.ready_to_move.Goals as goal
use Rattle.aggregate_svecf32.proofs.Header.ready_to_move.Goals.{Else-self-more, Else-has_room, Else-not-self, Else-not-lies_inside, In_ok-check}

-- ---- what each test that failed tells
passed : (c : In_ok-check) → state_of c.args.self (both c.args.lists) ≡ Valid
passed c = sym (checked_told c.check.ensures) ∙ c.in_ok-check.was

begun : (c : Else-not-self) → c.args.self.begun ≡ true
begun c = not-false _ c.if-not-self.false

within_dims : (c : Else-self-more) → let a = c.args in ltb a.self.dims a.more ≡ false
within_dims c = let a = c.args in le-ltb a.self.dims a.more c.if-self-more.false

needed : (c : Else-has_room) → let a = c.args in spare a.self a.more ≡ false
needed c = sym c.has_room.ensures ∙ c.if-has_room.false

inner : (c : Else-not-lies_inside) → let a = c.args in within a.start a.length (length a.to.indexes.now) (length a.to.values.now) ≡ true
inner c = sym c.lies_inside.ensures ∙ c.if-not-lies_inside.false

sure : (c : Else-not-self) → Sure c.args.self (both c.args.lists)
sure c = state_sure c.args.self (both c.args.lists) (passed (goal.at.Else-not-self c).In_ok-check) (begun c)

pub returns-in_err-check : goal.returns-in_err-check
unfolding move_of
returns-in_err-check c = let e : c.from_residual.result ≡ Err c.in_err-check.field-0.0 = search rules in
    rw e (checked_answer (rw (sym (checked_told c.check.ensures) ∙ c.in_err-check.was)))

pub returns-then-not-self : goal.returns-then-not-self
unfolding move_of
returns-then-not-self c = let t = (goal.at.returns-then-not-self c).In_ok-check in
    checked_answer (rw (passed t, not-true _ c.if-not-self.true))

pub returns-then-self-more : goal.returns-then-self-more
unfolding move_of
returns-then-self-more c = let b = (goal.at.returns-then-self-more c).Else-not-self in
    let a = b.args in
    checked_answer (rw (passed (goal.at.returns-then-self-more c).In_ok-check, begun b, lt-ltb a.self.dims a.more c.if-self-more.true))

pub has_room-requires : goal.has_room-requires
has_room-requires c = (sure (goal.at.has_room-requires c).Else-not-self).fair.room

pub returns-then-has_room : goal.returns-then-has_room
unfolding move_of
returns-then-has_room c = let d = (goal.at.returns-then-has_room c).Else-self-more in
    let b = (goal.at.returns-then-has_room c).Else-not-self in
    checked_answer (rw (passed (goal.at.returns-then-has_room c).In_ok-check, begun b, within_dims d, sym c.has_room.ensures ∙ c.if-has_room.true))

pub returns-then-not-lies_inside : goal.returns-then-not-lies_inside
unfolding move_of
returns-then-not-lies_inside c = let n = (goal.at.returns-then-not-lies_inside c).Else-has_room in
    let d = (goal.at.returns-then-not-lies_inside c).Else-self-more in
    let b = (goal.at.returns-then-not-lies_inside c).Else-not-self in
    checked_answer
    (rw (
      passed (goal.at.returns-then-not-lies_inside c).In_ok-check,
      begun b,
      within_dims d,
      needed n,
      sym c.lies_inside.ensures ∙ c.if-not-lies_inside.true,
    ))

pub overflow_add-self : goal.overflow_add-self
overflow_add-self c = let few = sure_few (sure (goal.at.overflow_add-self c).Else-not-self) in
    search rules

pub returns-then-length-capacity : goal.returns-then-length-capacity
unfolding move_of
returns-then-length-capacity c = let i = (goal.at.returns-then-length-capacity c).Else-not-lies_inside in
    let n = (goal.at.returns-then-length-capacity c).Else-has_room in
    let d = (goal.at.returns-then-length-capacity c).Else-self-more in
    let b = (goal.at.returns-then-length-capacity c).Else-not-self in
    let g = c.capacity-capacity.ensures in
    checked_answer
    (rw (passed (goal.at.returns-then-length-capacity c).In_ok-check, begun b, within_dims d, needed n, inner i, lt-ltb _ _ (rw g at c.if-length-capacity.true)) (ap (λ (n : ℕ). Err (Room n)) g))

pub returns : goal.returns
unfolding move_of
returns c = let i = (goal.at.returns c).Else-not-lies_inside in
    let n = (goal.at.returns c).Else-has_room in
    let d = (goal.at.returns c).Else-self-more in
    let b = (goal.at.returns c).Else-not-self in
    let g = c.capacity-capacity.ensures in
    checked_answer (rw (passed (goal.at.returns c).In_ok-check, begun b, within_dims d, needed n, inner i, le-ltb _ _ (rw g at c.if-length-capacity.false)))
