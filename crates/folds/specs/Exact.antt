-- Where dot and L2 are exact: "where values are whole and the terms' magnitudes sum to at most 16,777,216". Here are the terms of
-- those whole numbers (crates/sparse/specs/Numbers.antt) and the sums of them.
use Rattle.std.specs.Prelude.{ℕ, zero, suc, ◌+◌, ℤ, pos, nat_abs, ◌+ℤ◌, ◌-ℤ◌, ◌*ℤ◌}
use Rattle.sparse.specs.Vectors.{Vector, at}
use Rattle.sparse.specs.Numbers.{number_at}
use Rattle.sums.specs.Sums.{Kind, Product, Difference}

-- what a place adds: a product, or a squared difference
abbrev pub term_of : Kind → ℤ → ℤ → ℤ
term_of Product x y = x *ℤ y
term_of Difference x y = (x -ℤ y) *ℤ (x -ℤ y)

abbrev pub term_at : Kind → Vector → Vector → ℕ → ℤ
term_at kind a b k = term_of kind (number_at (at a k)) (number_at (at b k))

-- the terms below n added up, and their magnitudes
unfoldable pub total_below : (ℕ → ℤ) → ℕ → ℤ
total_below f zero = pos 0
total_below f (suc n) = total_below f n +ℤ f n

unfoldable pub weight_below : (ℕ → ℤ) → ℕ → ℕ
weight_below f zero = 0
weight_below f (suc n) = weight_below f n + nat_abs (f n)
