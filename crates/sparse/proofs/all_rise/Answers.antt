use Rattle.std.proofs.Common.{length, arith, ltb-true}
use Rattle.places.proofs.Below.{any_none}
use Rattle.sparse.specs.Calls.{falls}
use Rattle.sparse.proofs.Falls.{short, risen_more}
use Rattle.sparse.proofs.all_rise.Goals as goal

pub returns-then-indexes-eq0 : goal.returns-then-indexes-eq0
returns-then-indexes-eq0 c = λ e. short c.args.indexes.now _ (omega arith)

pub loop-i-preserved : goal.loop-i-preserved
loop-i-preserved c = risen_more c.loop-i.invariant (omega arith)

pub returns : goal.returns
returns c = λ e.
    let l = c.loop-i in
    let is = c.args.indexes.now in
    any_none (falls is) (length is) (λ k h. l.invariant.none (omega arith) (ltb-true l.any 2147483648 e) k (omega (arith, l.invariant.within)))
