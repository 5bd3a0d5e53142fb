-- A list that was written to the front of another stands there, and has as many elements as it had. Assumes nothing.
use Prim.Native.Nat.{ℕ, ◌≤◌}
use native.Mathlib.Omega.{arith}
use mathlib.Core.List.{List, ◌++◌}
use mathlib.Core.Path.{◌≡◌, sym, ap, ◌∙◌}
use lib.ListN.{length, take, drop, length-take}
use lib.Seq.{take_at}

module _ {ℓ} {A : Type ℓ} (new old : List A) {left : List A} (n : ℕ) (wrote : left ≡ new ++ drop n old) (many : length new ≡ n) where
  pub front : take n left ≡ new
  front = ap (take n) wrote ∙ take_at new (drop n old) n many

  pub front_count : n ≡ length (take n left)
  front_count = sym (ap length front ∙ many)

-- as many elements can be taken of a list as it has at most
pub within {ℓ} : {A : Type ℓ} (n : ℕ) (l : List A) → n ≡ length (take n l) → n ≤ length l
within n l e = omega (arith, e, length-take n l)
