-- What the loop over entries promises to the calls above it. A user's promises do not cite this.
use Rattle.std.specs.Prelude.{ℕ, not}
use Rattle.places.specs.Search.{first_from}
use Rattle.sparse.specs.Vectors.{Vector}
use Rattle.sparse_orders.specs.Orders.{same_entry}

-- the first of n entries that are not the same, and n where all are
abbrev pub first_other : Vector → Vector → ℕ → ℕ
first_other a b n = first_from (λ i. not (same_entry a b i)) n 0
