-- What equality and order promise: the tests in their order, and the answer.
use Rattle.std.specs.Prelude.{Bool, ◌&&◌, cond, eqb, Option, None, Result}
use Rattle.std.specs.declared.cmp.Ordering.{Ordering}
use Rattle.refusal.specs.Answers.{Asks, Orders}
use Rattle.refusal.specs.declared.Refusal.{Refusal}
use Rattle.sparse.specs.Vectors.{Vector}
use Rattle.sparse.specs.Calls.{each_of}
use Rattle.sparse_orders.specs.Orders.{same_entries, order_by}

-- "Equality: same dims and entries; NaN equals nothing."
abbrev pub Equals : Vector → Vector → Result Bool Refusal → Type 0
Equals a b = Asks (eqb a.dims b.dims && same_entries a b) (each_of a b)

-- "Sparse order: dims differ, no order. Otherwise walk both lists."
abbrev pub Compares : Vector → Vector → Result (Option Ordering) Refusal → Type 0
Compares a b = Orders (cond (eqb a.dims b.dims) (order_by a b) None) (each_of a b)
