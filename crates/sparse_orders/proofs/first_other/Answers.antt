use Rattle.std.proofs.Common.{◌∙◌, arith}
use Rattle.sparse.specs.Vectors.{seen}
use Rattle.sparse_orders.proofs.Others.{one_more, other_index, other_value, all_same}
use Rattle.sparse_orders.proofs.first_other.Goals as goal
use Rattle.sparse_orders.proofs.first_other.Goals.{then-a-i-via-then-a-i, then-a-i-via-else-a-i+then-a-i-2}

pub returns-then-a-i : goal.returns-then-a-i
returns-then-a-i c =
    let n = c.min-n.ensures in
    let a = seen c.args.a in
    let b = seen c.args.b in
    elim c.then-a-i.branch [
      | then-a-i-via-then-a-i w ↦ other_index a b _ _ c.loop-i.invariant (omega arith) w.if-a-i.true
      | then-a-i-via-else-a-i+then-a-i-2 w ↦ other_value a b _ _ c.loop-i.invariant (omega arith) w.if-a-i.false w.if-a-i-2.true
    ]

pub loop-i-preserved : goal.loop-i-preserved
loop-i-preserved c = one_more (seen c.args.a) (seen c.args.b) _ c.loop-i.invariant c.if-a-i.false c.if-a-i-2.false

pub returns : goal.returns
returns c =
    let n = c.min-n.ensures in
    n ∙ all_same (seen c.args.a) (seen c.args.b) _ (λ k h. c.loop-i.invariant k (omega arith))
