-- What reading a line promises to the calls above it. A user's promises do not cite these.
use Rattle.std.specs.Prelude.{ℕ, true, List, ◌≡◌}
use Rattle.reading.specs.Starts.{has_line, first_line, rest}

-- the bytes s start with the line l, and then the bytes u follow
pub record IsFirst (s l u : List ℕ) : Type 0 where
  pub has : has_line s ≡ true
  pub line : l ≡ first_line s
  pub follows : u ≡ rest s
