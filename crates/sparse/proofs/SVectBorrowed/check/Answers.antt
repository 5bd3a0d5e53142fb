-- `SVectBorrowed::check` meets its contract: its tests are those of the definition, in their order. Assumes nothing.
use Rattle.std.proofs.Common.{ℕ, Err, length, sym, ap, ◌∙◌, arith}
use Rattle.std.specs.Float.{nan}
use Rattle.places.proofs.First.{where_some, where_nowhere, position_where}
use Rattle.refusal.proofs.Dims.{some, zero_outside, high_outside}
use Rattle.refusal.proofs.Told.{checked_answer}
use Rattle.refusal.specs.declared.Refusal.TheVariants.{Order, Zero}
use Rattle.sparse.specs.Cells.{is_zero}
use Rattle.sparse.specs.Vectors.{seen}
use Rattle.sparse.specs.Calls.{falls, zero_at}
use Rattle.sparse.proofs.Checks.{refused_dims, refused_length, refused_order, refused_index, refused_zero, passes}
use Rattle.sparse.proofs.SVectBorrowed.check.Goals as goal

pub returns-then-self-eq0 : goal.returns-then-self-eq0
returns-then-self-eq0 c = checked_answer (sym (refused_dims _ (zero_outside 1048575 _ c.if-self-eq0.true)))

pub returns-then-self-gt1048575 : goal.returns-then-self-gt1048575
returns-then-self-gt1048575 c = checked_answer (sym (refused_dims _ (high_outside 1048575 c.args.self.dims (omega arith))))

pub returns-then-self : goal.returns-then-self
returns-then-self c =
    checked_answer (sym (refused_length (seen c.args.self) (some _ c.if-self-eq0.false) (omega arith) c.if-self.true))

pub returns-in-Some : goal.returns-in-Some
returns-in-Some c =
    let v = seen c.args.self in
    let w = where_some (falls v.indexes) (length v.indexes) _ (sym c.first_fall.ensures ∙ c.in-Some.is) in
    checked_answer
    (ap (λ (p : ℕ). Err (Order p)) w.1 ∙ sym (refused_order v (some _ c.if-self-eq0.false) (omega arith) c.if-self.false w.0))

pub returns-then-too_high : goal.returns-then-too_high
returns-then-too_high c =
    let v = seen c.args.self in
    let rises = where_nowhere (falls v.indexes) (length v.indexes) (sym c.first_fall.ensures ∙ c.in_default.is) in
    checked_answer
    (sym
    (refused_index v (some _ c.if-self-eq0.false) (omega arith) c.if-self.false rises
    (sym c.too_high.ensures ∙ c.if-too_high.true)))

pub returns-in-Some-first_zero : goal.returns-in-Some-first_zero
returns-in-Some-first_zero c =
    let v = seen c.args.self in
    let rises = where_nowhere (falls v.indexes) (length v.indexes) (sym c.first_fall.ensures ∙ c.in_default.is) in
    let w =
    where_some (zero_at v.values) (length v.values) _
    (sym (position_where is_zero v.values nan) ∙ sym c.first_zero.ensures ∙ c.in-Some-first_zero.is) in
    checked_answer
    (ap (λ (p : ℕ). Err (Zero p)) w.1
    ∙ sym
    (refused_zero v (some _ c.if-self-eq0.false) (omega arith) c.if-self.false rises
    (sym c.too_high.ensures ∙ c.if-too_high.false) w.0))

pub returns : goal.returns
returns c =
    let v = seen c.args.self in
    let rises = where_nowhere (falls v.indexes) (length v.indexes) (sym c.first_fall.ensures ∙ c.in_default.is) in
    let none =
    where_nowhere (zero_at v.values) (length v.values)
    (sym (position_where is_zero v.values nan) ∙ sym c.first_zero.ensures ∙ c.in_default-first_zero.is) in
    checked_answer
    (sym
    (passes v (some _ c.if-self-eq0.false) (omega arith) c.if-self.false rises
    (sym c.too_high.ensures ∙ c.if-too_high.false) none))
