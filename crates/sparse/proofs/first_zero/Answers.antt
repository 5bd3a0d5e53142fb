-- `sparse::first_zero` meets its contract: where no value is a zero, none is found. Assumes nothing.
use Rattle.std.proofs.Common.{length, sym, ◌∙◌}
use Rattle.std.specs.Float.{nan}
use Rattle.places.proofs.First.{position_where, where_none}
use Rattle.places.proofs.Below.{any_false}
use Rattle.sparse.specs.Calls.{zero_at}
use Rattle.sparse.specs.Cells.{is_zero}
use Rattle.sparse.proofs.first_zero.Goals as goal

pub returns-then-not-some_zero : goal.returns-then-not-some_zero
returns-then-not-some_zero c =
    let vs = c.args.values.now in
    let none = sym c.some_zero.ensures ∙ c.if-not-some_zero.true in
    sym (position_where is_zero vs nan ∙ where_none (zero_at vs) (length vs) (λ k l. any_false (zero_at vs) (length vs) k none l))
