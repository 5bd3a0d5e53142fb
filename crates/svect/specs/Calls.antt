-- What `zero` of `svect` promises; the other calls promise what those of the crates below do.
use Rattle.std.specs.Prelude.{ℕ, Result}
use Rattle.refusal.specs.Answers.{Valid, refuse, Wrote}
use Rattle.refusal.specs.declared.Refusal.{Refusal}
use Rattle.refusal.specs.declared.Refusal.TheVariants.{Dims}
use Rattle.refusal.specs.declared.Written.{Written}
use Rattle.sparse.specs.Calls.{bad_dims}

-- the vector of d places without entries: there is nothing to write
abbrev pub Zeroes : ℕ → Result Written Refusal → Type 0
Zeroes d = Wrote d 0 (refuse (bad_dims d) Dims Valid)
