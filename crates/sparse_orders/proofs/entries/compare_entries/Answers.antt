-- `entries::compare_entries` meets its contract: a value that is no zero compares with the zero of the other side as any two values do.
-- Assumes nothing.
use Rattle.std.proofs.Common.{◌≡◌, ◌∙◌, cond, ℕ, Bool, true, false, Less, Equal, Greater, eqb, ltb, refl}
use Rattle.std.specs.Ordering.{nat_cmp}
use Rattle.sparse.specs.Cells.{zero32}
use Rattle.sparse_orders.specs.Orders.{compared, alone}
use Rattle.sparse_orders.proofs.Floats.{eq_turned}
use Rattle.sparse_orders.proofs.entries.compare_entries.Goals as goal

-- the right index is the smaller one
right : {A : Type 0} (i j : ℕ) (both left other : A) → Greater ≡ nat_cmp i j → other ≡ cond (eqb i j) both (cond (ltb i j) left other)
right {A} i j both left other e = go (ltb i j) (eqb i j) e
  where
    go : (l s : Bool) → Greater ≡ cond l Less (cond s Equal Greater) → other ≡ cond s both (cond l left other)
    go true s h = absurd cc
    go false true h = absurd cc
    go false false h = refl

pub returns-in-Greater : goal.returns-in-Greater
returns-in-Greater c =
    let y = c.args.y in
    let e : compared zero32 y ≡ alone zero32 y = rw (eq_turned zero32 y, c.requires.1) in
    c.compare-in-Greater.ensures ∙ e ∙ right c.args.i c.args.j _ _ _ c.in-Greater.ensures
