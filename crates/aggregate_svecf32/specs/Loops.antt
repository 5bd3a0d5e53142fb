-- What the inner calls of the aggregate are handed, and what they promise to the calls above them. A user's promises do not cite these.
use Rattle.std.specs.Prelude.{◌≡◌}
use Rattle.refusal.specs.Answers.{Valid}
use Rattle.sparse.specs.Vectors.{Vector}
use Rattle.sparse.specs.Sound.{Sound}
use Rattle.regions.specs.Regions.{Pair}
use Rattle.aggregate_svecf32.specs.States.{state_of}
use Rattle.aggregate_svecf32.specs.declared.Header.{Header}

-- a state and a vector that passed
pub record Given (h : Header) (p : Pair) (v : Vector) : Type 0 where
  pub state : state_of h p ≡ Valid
  pub row : Sound v
