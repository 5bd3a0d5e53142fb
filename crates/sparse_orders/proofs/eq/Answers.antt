-- `sparse_orders::eq` meets its contract: vectors that passed their tests are equal if their dims and sizes are, and no entry is another.
-- Assumes nothing.
use Rattle.std.proofs.Common.{◌≡◌, Ok, min, eq-eqb, sym, ap, ◌∙◌, arith}
use Rattle.refusal.specs.Answers.{Valid}
use Rattle.refusal.proofs.Told.{checked_told, asked_answer}
use Rattle.sparse.specs.Calls.{each_of}
use Rattle.sparse.specs.Vectors.{seen, size}
use Rattle.sparse.proofs.Checks.{each_sound}
use Rattle.sparse_orders.specs.Loops.{first_other}
use Rattle.sparse_orders.proofs.Others.{others_tell}
use Rattle.sparse_orders.proofs.eq.Goals as goal
use Rattle.sparse_orders.proofs.eq.Goals.{In_ok-check_each}

-- the vectors passed their tests
passed : (c : In_ok-check_each) → each_of (seen c.args.a) (seen c.args.b) ≡ Valid
passed c = sym (checked_told c.check_each.ensures) ∙ c.in_ok-check_each.was

pub first_other-requires : goal.first_other-requires
first_other-requires c =
    let t = (goal.at.first_other-requires c).In_ok-check_each in
    each_sound (seen t.args.a) (seen t.args.b) (passed t)

pub returns : goal.returns
returns c =
    let t = (goal.at.returns c).In_ok-check_each in
    let a = seen c.args.a in
    let b = seen c.args.b in
    let long : size a ≡ size b = omega (arith, c.if-a-b-2.false) in
    let all : min (size a) (size b) ≡ size a = omega (arith, long) in
    let told = others_tell a b long in
    asked_answer _ (rw (passed t, eq-eqb a.dims b.dims c.if-a-b.false, c.first_other.ensures, all) (ap Ok told))
