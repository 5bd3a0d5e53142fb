-- What a call that writes a text leaves in a lent list.
use Rattle.std.specs.Prelude.{ℕ, ◌+◌, List, ◌++◌, ◌≡◌, length, take, drop}

-- the text t stands from the place `at` on, the place after it is answered, and all else is as it was
pub record Puts (t : List ℕ) (at : ℕ) (old : List ℕ) (r : ℕ) (new : List ℕ) : Type 0 where
  pub after : r ≡ at + length t
  pub text : new ≡ take at old ++ (t ++ drop r old)
