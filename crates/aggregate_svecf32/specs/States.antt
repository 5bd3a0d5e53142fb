-- Document 01, "Aggregate states": what a header says of its region, and when it is consistent.
use Rattle.std.specs.Prelude.{ℕ, Bool, false, not, cond, List, [], ◌∷◌, eqb, get_or}
use Rattle.refusal.specs.Answers.{Checked, Valid, refuse}
use Rattle.refusal.specs.declared.Refusal.TheVariants.{Room, State}
use Rattle.places.specs.Below.{one}
use Rattle.sparse.specs.Vectors.{Vector, vector}
use Rattle.regions.specs.Regions.{Pair, part, inside}
use Rattle.headers.specs.Headers.{fair, zeros}
use Rattle.aggregate_svecf32.specs.declared.Header.{Header}

-- a state of this region, begun or not, with dims, len, capacity and count
abbrev pub header : ℕ → ℕ → Bool → ℕ → ℕ → ℕ → ℕ → Header
header start length begun d len capacity count =
    record { start = start; length = length; begun = begun; dims = d; len = len; capacity = capacity; count = count }

-- a header as seven numbers, in document 01's order: "start, region length, whether it has begun, dims, len, capacity, count"
abbrev pub numbers_of : Header → List ℕ
numbers_of h = h.start ∷ h.length ∷ one h.begun ∷ h.dims ∷ h.len ∷ h.capacity ∷ h.count ∷ []

-- and the header that seven numbers are
abbrev pub header_from : List ℕ → Header
header_from ns =
    let at : ℕ → ℕ = λ i. get_or ns i 0 in
    header (at 0) (at 1) (eqb (at 2) 1) (at 3) (at 4) (at 5) (at 6)

-- a state without rows
abbrev pub fresh : ℕ → ℕ → Header
fresh start length = header start length false 0 0 0 0

-- the vector that a state holds: the first len entries of its region
abbrev pub held : Header → Pair → Vector
held h p = vector h.dims (part h.start h.len p.indexes) (part h.start h.len p.values)

-- "if begun, .." and "if not begun, ..": the tests of `headers`
abbrev pub begun_fairly : Header → Pair → Bool
begun_fairly h p = fair h.length h.len h.capacity h.count (held h p)

abbrev pub all_zero : Header → Bool
all_zero h = zeros h.dims h.len h.capacity h.count

-- "A header is consistent when"
unfoldable pub consistent : Header → Pair → Bool
consistent h p = cond h.begun (begun_fairly h p) (all_zero h)

-- "then the region inside both lists (ROOM), STATE": Room carries "the region length"
unfoldable pub state_of : Header → Pair → Checked
state_of h p =
    refuse (not (inside h.start h.length p)) (Room h.length)
    (refuse (not (consistent h p)) State
    Valid)
