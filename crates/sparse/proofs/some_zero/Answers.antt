use Rattle.std.proofs.Common.{sym, ◌∙◌, arith}
use Rattle.places.proofs.Below.{any_none, any_hit, any_miss}
use Rattle.sparse.specs.Calls.{zero_at}
use Rattle.sparse.proofs.some_zero.Goals as goal
use Rattle.sparse.proofs.some_zero.Goals.{then-value, else-value}

pub loop-value-init : goal.loop-value-init
loop-value-init c = sym (any_none (zero_at c.args.values.now) 0 (λ i h. absurd (omega arith)))

pub loop-value-preserved : goal.loop-value-preserved
loop-value-preserved c =
    let t = zero_at c.args.values.now in
    elim c.if-value.branch [
      | then-value w ↦ w.found-is ∙ any_hit t c.loop-value.value-index w.if-value.true
      | else-value w ↦ w.found-is ∙ any_miss t c.loop-value.value-index c.loop-value.found w.if-value.false c.loop-value.invariant
    ]
