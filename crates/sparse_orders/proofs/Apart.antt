-- The order of dense vectors, by the lowest place at which they differ. Assumes nothing.
use Rattle.std.proofs.Common.{◌≡◌, ℕ, ◌≤◌, ◌<◌, Bool, true, false, not, Some, ap, arith, lt-ltb, le-ltb}
use Rattle.std.specs.declared.cmp.Ordering.TheVariants.{Equal}
use lib.Ieee.{Float, eq}
use borrow.Author.Tests.{not-true, not-false}
use Rattle.places.proofs.First.{found, none, before, hit}
use Rattle.sparse_orders.specs.Dense.{first_apart, dense_order}
use Rattle.sparse_orders.specs.Orders.{compared}

module _ (d : ℕ) (f g : ℕ → Float) where
  abbrev unlike : ℕ → Bool
  unlike k = not (eq (f k) (g k))

  -- which place it is tells the order
  pub dense_apart : (k : ℕ) → ((j : ℕ) → j < k → eq (f j) (g j) ≡ true) → k < d → eq (f k) (g k) ≡ false → dense_order d f g ≡ compared (f k) (g k)
  dense_apart k all l other =
      let e : first_apart d f g ≡ k = found unlike d 0 k (λ j a b. ap not (all j b)) (ap not other) (omega arith) (omega arith) in
      rw (e, lt-ltb k d l)

  pub dense_equal : ((j : ℕ) → j < d → eq (f j) (g j) ≡ true) → dense_order d f g ≡ Some Equal
  dense_equal all =
      let e : first_apart d f g ≡ d = omega (arith, none unlike d 0 (λ j a b. ap not (all j (omega arith)))) in
      rw (e, le-ltb d d (omega arith))

  -- and back: before it they are equal, and there they are not
  abbrev m : ℕ
  m = first_apart d f g

  pub equal_before : (k : ℕ) → k < m → eq (f k) (g k) ≡ true
  equal_before k h = not-false (eq (f k) (g k)) (before unlike d 0 k (omega arith) h)

  pub apart_there : m < d → eq (f m) (g m) ≡ false
  apart_there h = not-true (eq (f m) (g m)) (hit unlike d 0 (omega arith))

  pub dense_there : m < d → dense_order d f g ≡ compared (f m) (g m)
  dense_there h = dense_apart m equal_before h (apart_there h)

  pub dense_nowhere : d ≤ m → dense_order d f g ≡ Some Equal
  dense_nowhere h = dense_equal (λ j l. equal_before j (omega arith))
