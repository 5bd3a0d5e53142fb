-- A sum of products takes the place of the smaller index: where the sides do not meet -0 is added, which leaves it as it is. Assumes
-- nothing.
use Rattle.std.proofs.Common.{rules, nat_eq, nat_lt}
use Rattle.sums.proofs.Quick.{product_next}
use Rattle.sums.proofs.ProductsSum.quick.Goals as goal

pub returns : goal.returns
returns c = let t = c.args in
    rw c.value_at.ensures
    (product_next (nat_eq t.i t.j) (nat_lt t.i t.j) t.self t.x t.y (search rules))
