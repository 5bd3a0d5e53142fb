use Rattle.std.proofs.Common.{length, sym, arith}
use Rattle.places.proofs.First.{where_found, where_none}
use Rattle.sparse.specs.Calls.{falls}
use Rattle.sparse.proofs.Falls.{fallen}
use Rattle.sparse.proofs.first_fall.Goals as goal

pub returns-then-high-low : goal.returns-then-high-low
returns-then-high-low c = let l = c.loop-i in
    let is = c.args.indexes.now in
    sym (where_found (falls is) (length is) l.i (omega arith) (fallen is l.i (omega arith) c.if-high-low.true) (λ k b. l.invariant.2 k b))

pub returns : goal.returns
returns c = let l = c.loop-i in
    let is = c.args.indexes.now in
    sym (where_none (falls is) (length is) (λ k a. l.invariant.2 k (omega arith)))
