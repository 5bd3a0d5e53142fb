-- What a call leaves of a line that is being written.
use Rattle.std.specs.Prelude.{ℕ, List, ◌≡◌}
use Rattle.texts.specs.Puts.{Puts}
use Rattle.texts.specs.declared.Line.{Line}

-- the text t stands after what the line had, and the line is written to the same list
pub record Adds (t : List ℕ) (old new : Line) : Type 0 where
  pub same : new.out.ghost_name ≡ old.out.ghost_name
  pub puts : Puts t old.at old.out.now new.at new.out.now
