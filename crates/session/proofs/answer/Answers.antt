-- `session::answer` meets its contract: what was read decides what is printed. Assumes nothing.
use Rattle.std.proofs.Common.{◌≡◌, Some, sym, ◌∙◌}
use Rattle.reading.specs.Starts.{first_vector, first_name}
use Rattle.session.proofs.Asking.{Took, read_bad, read_vector, first_bad, second_bad, third_bad, extra, asked}
use Rattle.session.proofs.answer.Goals as goal
use Rattle.session.proofs.answer.Goals.{In-Some, In-Some-vector_line, In-Some-operation_line}

-- the first line was read
one : (c : In-Some) → Took (first_vector c.args.s.now) c.in-Some.a.dims c.in-Some.a.len c.vector_line.new.room
one c = read_vector _ _ _ (rw c.in-Some.is at c.vector_line.ensures.entries)

-- and the second
two : (c : In-Some-vector_line) →
    let b = c.in-Some-vector_line.b in
    Took (first_vector c.vector_line.new.self.rest.now) b.dims b.len c.vector_line-2.new.room
two c = read_vector _ _ _ (rw c.in-Some-vector_line.is at c.vector_line-2.ensures.entries)

-- and the third
named : (c : In-Some-operation_line) → first_name c.vector_line-2.new.self.rest.now ≡ Some c.in-Some-operation_line.op
named c = sym c.operation_line.ensures.name ∙ c.in-Some-operation_line.is

pub returns-in_default : goal.returns-in_default
returns-in_default c =
    let e = rw c.in_default.is at c.vector_line.ensures.entries in
    rw (first_bad c.args.s.now (read_bad _ _ _ e)) c.bad_line.ensures

pub returns-in_default-vector_line : goal.returns-in_default-vector_line
returns-in_default-vector_line c =
    let p = goal.at.returns-in_default-vector_line c in
    let e = rw c.in_default-vector_line.is at c.vector_line-2.ensures.entries in
    rw (second_bad c.args.s.now (one p.In-Some) c.in-Some.ensures.left (read_bad _ _ _ e)) c.bad_line-in_default-vector_line.ensures

pub returns-in_default-operation_line : goal.returns-in_default-operation_line
returns-in_default-operation_line c =
    let p = goal.at.returns-in_default-operation_line c in
    let e = sym c.operation_line.ensures.name ∙ c.in_default-operation_line.is in
    rw (third_bad c.args.s.now (one p.In-Some) c.in-Some.ensures.left (two p.In-Some-vector_line) c.in-Some-vector_line.ensures.left e)
    c.bad_line-in_default-operation_line.ensures

pub returns-then-goes_on : goal.returns-then-goes_on
returns-then-goes_on c =
    let p = goal.at.returns-then-goes_on c in
    let e = sym c.goes_on.ensures ∙ c.if-goes_on.true in
    rw (extra c.args.s.now (one p.In-Some) c.in-Some.ensures.left (two p.In-Some-vector_line) c.in-Some-vector_line.ensures.left (named p.In-Some-operation_line) c.in-Some-operation_line.ensures.left e)
    c.bad_line-then-goes_on.ensures

pub returns : goal.returns
returns c =
    let p = goal.at.returns c in
    let e = sym c.goes_on.ensures ∙ c.if-goes_on.false in
    rw (asked c.args.s.now (one p.In-Some) c.in-Some.ensures.left (two p.In-Some-vector_line) c.in-Some-vector_line.ensures.left (named p.In-Some-operation_line) c.in-Some-operation_line.ensures.left e)
    c.operate.ensures
