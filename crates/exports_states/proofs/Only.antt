-- What an exported call on a state gives is decided: two outcomes of it, from the same arguments, are equal. Assumes nothing.
use mathlib.Core.Path.{◌≡◌}
use Rattle.std.proofs.Common.{ap₂}
use Rattle.refusal.specs.Answers.{Checked}
use Rattle.regions.specs.Regions.{Pair}
use Rattle.aggregate_svecf32.specs.Calls.{Deed, Acts}
use Rattle.aggregate_svecf32.specs.declared.Header.{Header}
use Rattle.aggregate_svecf32.proofs.Acting.{Alike, one_acts}
use Rattle.exports_answers.specs.Answers.{Tells}
use Rattle.exports_states.specs.States.{Outcome}
use Rattle.exports_answers.proofs.Only.{one_told}

-- in the lists of a state, but for the places that document 01 leaves open
pub state_decided : {B : Type 0} {tells_of : Outcome → B} {given given' : B} {h : Header} {due : Checked} {d : Deed} {p a b : Pair}
    → Tells tells_of (λ t. Acts h due d p t.0 t.1 a) given → Tells tells_of (λ t. Acts h due d p t.0 t.1 b) given'
    → (given ≡ given') × Alike due d a b
state_decided p q = (one_told (λ x y k l. let o = one_acts k l in ap₂ (λ r h. (r, h)) o.0 o.1) p q, (one_acts p.kept q.kept).2)
