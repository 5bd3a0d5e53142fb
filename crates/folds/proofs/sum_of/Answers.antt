use Rattle.std.proofs.Common.{◌<◌, length, ⊎_elim, inl, inr, refl, arith}
use Rattle.walks.specs.Walk.{Any}
use Rattle.walks.proofs.Walks.{standing}
use Rattle.sums.proofs.Summing.{summing_start, summing_end}
use Rattle.sums.proofs.Runs.{over, few, summing_added, summing_chain, summing_running}
use Rattle.folds.proofs.sum_of.Goals as goal

pub loop-way-init : goal.loop-way-init
loop-way-init g c = rw c.start-w.ensures (refl, refl, summing_start)

pub run-part-requires : goal.run-part-requires
run-part-requires g c =
    let w = c.loop-way.w in
    let k = c.run_length-k.ensures in
    let i = c.loop-way.invariant in
    let h = i.2.going.walk in
    summing_running (over i.0 i.1 c.requires) w.p w.q (omega (arith, k.0, h.left.within)) (omega (arith, k.1, h.right.within))

pub way_on-way-requires : goal.way_on-way-requires
way_on-way-requires g c =
    let w = c.loop-way.w in
    let k = c.run_length-k.ensures in
    let i = c.loop-way.invariant in
    let h = i.2.going.walk in
    let e = c.run-part.ensures in
    few (over i.0 i.1 c.requires) w.p w.q (omega (arith, k.0, h.left.within)) e.within e.within'

pub loop-way-preserved : goal.loop-way-preserved
loop-way-preserved g c =
    let i = c.loop-way.invariant in
    (i.0, i.1, summing_chain (over i.0 i.1 c.requires) g.met.S.Sum.still i.2 c.run-part.ensures.chain)

pub plain_turn-part-requires : goal.plain_turn-part-requires
plain_turn-part-requires g c =
    let i = c.loop-w.invariant in
    let r = over i.0 i.1 c.requires in
    let h = i.2.going.walk in
    let some : Any c.loop-w.w = c.loop-w-test.ensures.0 refl in
    standing r.left r.right i.2.going (⊎_elim (λ l. omega (arith, l, h.right.within)) (λ l. omega (arith, l, h.left.within)) some)

pub loop-w-preserved : goal.loop-w-preserved
loop-w-preserved g c =
    let i = c.loop-w.invariant in
    (i.0, i.1, summing_added (over i.0 i.1 c.requires) g.met.S.Sum.still i.2 c.plain_turn-part.ensures)

pub returns : goal.returns
returns g c =
    let i = c.loop-w.invariant in
    let none : Any c.loop-w.w → ⊥ = λ some. let e = c.loop-w-test.ensures.1 some in absurd cc in
    let left : c.loop-w.w.p < length c.loop-w.w.a.indexes.now → ⊥ = λ l. none (inl l) in
    let right : c.loop-w.w.q < length c.loop-w.w.b.indexes.now → ⊥ = λ l. none (inr l) in
    let e = summing_end g.met.S.Sum.still (over i.0 i.1 c.requires) i.2 (omega (arith, left, right)) in
    rw (i.0, i.1) at e
