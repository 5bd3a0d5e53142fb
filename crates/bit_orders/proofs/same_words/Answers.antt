-- `bit_orders::same_words` meets its contract: words are the same that compare as equal. Assumes nothing.
use Rattle.std.proofs.Common.{sym, ◌∙◌}
use Rattle.bit_orders.proofs.Orders.{equal_same, unequal_other}
use Rattle.bit_orders.proofs.same_words.Goals as goal

pub returns-in-Equal : goal.returns-in-Equal
returns-in-Equal c =
    sym (equal_same c.args.a.now c.args.b.now (λ i. (c.type_inv.a i).fits) (λ i. (c.type_inv.b i).fits) (sym c.compare_all.ensures ∙ c.in-Equal.is))

pub returns-in_default : goal.returns-in_default
returns-in_default c =
    sym
    (unequal_other c.args.a.now c.args.b.now (λ i. (c.type_inv.a i).fits) (λ i. (c.type_inv.b i).fits)
    (λ e. c.in_default.not-Equal (c.compare_all.ensures ∙ e)))
