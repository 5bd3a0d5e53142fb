use Prim.Native.Nat.{◌+◌}
use native.Mathlib.Omega.{arith}
use mathlib.Core.Path.{◌≡◌}
use Rattle.sparse.specs.Vectors.{seen}
use Rattle.sparse.proofs.Checks.{sizes_most}
use Rattle.walks.proofs.Walks.{passed}
use Rattle.strides.proofs.Steps.{next_passed}
use Rattle.strides.proofs.Chains.{chain_passed}
use Rattle.in_place.proofs.Climbs.{Climbing, lying, climbing_start, climbing_steady, climbing_clear, climbing_more, climbing_chain}
use Rattle.in_place.proofs.Climbs.{climbing_end, reached}
use Rattle.in_place.proofs.merge_up.Goals as goal
use Rattle.in_place.proofs.merge_up.Goals.{After-any_stride-r}

-- what a turn and the stride after it lead to
strode : (c : After-any_stride-r)
    → let a = c.args in
    let s = c.any_stride-r.result.step in
    Climbing (lying a.row.dims a.low a.gap a.cap a.si.now a.sv.now) (seen a.row) a.low a.gap
    a.si.now a.sv.now c.any_stride-r.new.si c.any_stride-r.new.sv s.at s.q s.n (c.loop-step.turns + (1 + c.any_stride-r.result.turns))
strode c =
    let r = c.requires in
    let k = c.any_stride-r.result.turns in
    let e : c.loop-step.turns + 1 + k ≡ c.loop-step.turns + (1 + k) = omega arith in
    rw e at (climbing_chain r (climbing_more r c.loop-step.invariant c.any_step-s.ensures) c.any_stride-r.ensures)

pub loop-step-init : goal.loop-step-init
loop-step-init c = climbing_start c.requires

pub any_step-s-requires : goal.any_step-s-requires
any_step-s-requires c = climbing_steady c.requires c.loop-step.invariant (omega arith)

pub any_stride-r-requires-clause-clear : goal.any_stride-r-requires-clause-clear
any_stride-r-requires-clause-clear c = let r = c.requires in
    let m = climbing_more r c.loop-step.invariant c.any_step-s.ensures in
    climbing_clear r m

pub overflow_add-turns : goal.overflow_add-turns
overflow_add-turns c = let m = strode (goal.at.overflow_add-turns c).After-any_stride-r in
    let r = c.requires.roomy in
    omega (arith, m.merging.steps, sizes_most r.left r.right, passed m.merging.going)

pub overflow_add-turns-in-loop-step : goal.overflow_add-turns-in-loop-step
overflow_add-turns-in-loop-step c = let m = strode (goal.at.overflow_add-turns-in-loop-step c).After-any_stride-r in
    let r = c.requires.roomy in
    omega (arith, m.merging.steps, sizes_most r.left r.right, passed m.merging.going)

pub loop-step-smaller : goal.loop-step-smaller
loop-step-smaller c = let d = (goal.at.loop-step-smaller c).After-any_stride-r in
    let m = strode d in
    let r = d.requires in
    let on = next_passed d.any_step-s.ensures in
    let on' = chain_passed d.any_stride-r.ensures in
    omega (arith, reached r m, m.merging.going.walk.right.within)

pub loop-step-preserved : goal.loop-step-preserved
loop-step-preserved c = strode (goal.at.loop-step-preserved c).After-any_stride-r

pub returns : goal.returns
returns c = climbing_end c.requires c.loop-step.invariant (omega arith)
