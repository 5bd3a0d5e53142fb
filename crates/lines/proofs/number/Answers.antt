use Rattle.std.proofs.Common.{◌≡◌, ◌+◌, ◌*◌, drop, length, sym, ◌∙◌, arith}
use Rattle.lines.specs.Numerals.{numeral_of}
use Rattle.lines.proofs.Numbers.{from, no_digit, one_digit, too_large, ended}
use Rattle.lines.proofs.number.Goals as goal
use Rattle.lines.proofs.number.Goals.{Else-base-d}

-- the digit joins the number
joined : (c : Else-base-d) → let a = c.args in
    let l = c.loop-c in
    numeral_of a.base a.s.now ≡ from a.base (l.value * a.base + c.in_ok-d.d) (drop (l.c-index + 1) a.s.now)
joined c = c.loop-c.invariant.1 ∙ one_digit _ _ _ _ _ c.loop-c-test.true c.in_ok-d.ensures c.if-base-d.false

pub returns-in_err-d : goal.returns-in_err-d
returns-in_err-d c = let l = c.loop-c in
    c.from_residual.ensures ∙ sym (l.invariant.1 ∙ no_digit _ _ _ _ _ c.loop-c-test.true c.in_err-d.ensures c.requires)

pub returns-then-base-d : goal.returns-then-base-d
returns-then-base-d c = let l = c.loop-c in
    sym (l.invariant.1 ∙ no_digit _ _ _ _ _ c.loop-c-test.true c.in_ok-d.ensures c.if-base-d.true)

pub returns-then-value-gt-LARGEST : goal.returns-then-value-gt-LARGEST
returns-then-value-gt-LARGEST c =
    sym (joined (goal.at.returns-then-value-gt-LARGEST c).Else-base-d ∙ too_large _ _ _ (omega arith) c.if-value-gt-LARGEST.true)

pub loop-c-preserved : goal.loop-c-preserved
loop-c-preserved c = (omega arith, joined (goal.at.loop-c-preserved c).Else-base-d)

pub returns : goal.returns
returns c = let a = c.args in
    let l = c.loop-c in
    let e : l.c-index ≡ length a.s.now = omega arith in
    ended a.base l.value a.s.now l.invariant.0 ∙ sym (l.invariant.1 ∙ rw e)
