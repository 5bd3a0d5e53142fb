-- What the loops over the words of two vectors are handed. A user's promises do not cite it.
use Rattle.std.specs.Prelude.{ℕ, ◌≤◌, List, ◌≡◌, length}

-- two lists of as many words, and no more than a vector has
pub record Alike (a b : List ℕ) : Type 0 where
  pub long : length b ≡ length a
  pub most : length a ≤ 1024
