-- The bits to print are written one by one.
use Rattle.std.proofs.Common.{◌≡◌, length, sym, ◌∙◌, arith}
use Rattle.places.proofs.Below.{list_all, wrote_none, wrote_more}
use Rattle.entry_bits.specs.Operands.{lent, shown}
use Rattle.entry_bits.proofs.Printed.{shown_length, shown_get_d}
use Rattle.entry_bits.proofs.shown.Goals as goal

pub loop-i-init : goal.loop-i-init
loop-i-init c = wrote_none

pub loop-i-preserved : goal.loop-i-preserved
loop-i-preserved c = let l = c.loop-i in
    let one = shown_get_d _ _ _ c.args.given.indexes.now c.args.given.values.now l.i (omega arith) c.requires.0 in
    wrote_more l.invariant (omega arith) (c.shown_at.ensures ∙ one)

pub returns : goal.returns
returns c = let l = c.loop-i in
    let a = c.args in
    let all : l.i ≡ length a.given.indexes.now = omega arith in
    let many = shown_length a.op (lent a.a) (lent a.b) a.given.indexes.now a.given.values.now c.requires.0 in
    rw (all, sym many, list_all (shown a.op (lent a.a) (lent a.b) a.given.indexes.now a.given.values.now) 0, many) at l.invariant.front
