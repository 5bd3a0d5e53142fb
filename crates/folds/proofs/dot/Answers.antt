-- `folds::dot` meets its contract: the tests of two vectors, then the sum over them. Assumes nothing.
use Rattle.std.proofs.Common.{ap, ◌∙◌}
use Rattle.std.specs.Float.Ieee.{neg}
use Rattle.sparse.specs.Cells.{zero32}
use Rattle.sparse.specs.Vectors.{seen, at}
use Rattle.sums.specs.declared.Products.{Products}
use Rattle.sums.proofs.Inner.{products_inner}
use Rattle.folds.proofs.Answered.{passed, measured}
use Rattle.folds.proofs.dot.Goals as goal

pub sum_of-requires : goal.sum_of-requires
sum_of-requires c = passed c.check_pair.ensures c.in_ok-check_pair.was

pub returns : goal.returns
returns c = let t = c.args in
    measured c.check_pair.ensures c.in_ok-check_pair.was
    (ap (λ (s : Products). neg s.0) c.sum_of.ensures ∙ ap neg (products_inner (record { 0 = zero32 }) (at (seen t.a)) (at (seen t.b)) t.a.dims))
