-- Document 01, "Aggregate states": the tests of each call in their order, what it is to do where they find nothing, and what it promises.
use Rattle.std.specs.Prelude.{ℕ, ◌+◌, ◌-◌, Bool, true, not, cond, ◌&&◌, List, [], ◌∷◌, ◌≡◌, ltb, eqb, length, Float, Result, Ok, Err}
use Rattle.refusal.specs.Answers.{Checked, Valid, refuse, next, answer, Says, says, refused}
use Rattle.refusal.specs.declared.Refusal.{Refusal}
use Rattle.refusal.specs.declared.Refusal.TheVariants.{Dims, Differ, Room, Need, Count, NotBegun, NotNeeded}
use Rattle.refusal.specs.declared.Written.{Written}
use Rattle.sparse.specs.Vectors.{Vector, vector, size}
use Rattle.sparse.specs.Calls.{checked_of, room_of, Leaves}
use Rattle.merges.specs.Algebra.{joins}
use Rattle.merges.specs.declared.Op.TheVariants.{Add}
use Rattle.regions.specs.Capacity.{capacity_for}
use Rattle.regions.specs.Regions.{Pair, inside, Stands}
use Rattle.in_place.specs.Turns.{row_turns}
use Rattle.averages.specs.Averages.{shared}
use Rattle.headers.specs.Headers.{too_many, has_room}
use Rattle.aggregate_svecf32.specs.States.{header, numbers_of, held, state_of}
use Rattle.aggregate_svecf32.specs.declared.Header.{Header}

-- ---- what a call does to a state

-- the header afterwards, the turns, and the vector to write from the header's start on, where `room` places may change
pub record Deed : Type 0 where
  pub header : Header
  pub turns : ℕ
  pub room : ℕ
  pub vector : Vector

abbrev pub deed : Header → ℕ → ℕ → Vector → Deed
deed h turns room v = record { header = h; turns = turns; room = room; vector = v }

-- the number of an answer, its place, the turns, and the header as it is afterwards
abbrev pub told_says : Header → Result ℕ Refusal → Says
told_says h (Ok turns) = says 0 0 (turns ∷ numbers_of h)
told_says h (Err r) = refused r (0 ∷ numbers_of h)

-- "A refused aggregate call hands back the header it was given, unchanged (in a combine the first's)." "Other numbers beside a refusal are 0"
abbrev pub told_tells : Header → Header → ℕ → Checked → Says
told_tells given new turns (Ok u) = says 0 0 (turns ∷ numbers_of new)
told_tells given new turns (Err r) = refused r (0 ∷ numbers_of given)

-- the header afterwards
abbrev pub handed_back : Header → Header → Checked → Header
handed_back given new (Ok u) = new
handed_back given new (Err r) = given

-- a lent list afterwards: xs stands in it; and after a refusal it is as it was
abbrev pub Left {ℓ} : {A : Type ℓ} → Checked → ℕ → ℕ → List A → List A → List A → Type ℓ
Left (Ok u) start room xs old new = Stands start room xs old new
Left (Err r) start room xs old new = new ≡ old

-- a call on the state h answers r and leaves the header h' and the lists q of p, where its tests find `due`
pub record Acts (h : Header) (due : Checked) (d : Deed) (p : Pair) (r : Result ℕ Refusal) (h' : Header) (q : Pair) : Type 0 where
  pub told : told_says h' r ≡ told_tells h d.header d.turns due
  pub answer : r ≡ answer d.turns due
  pub header : h' ≡ handed_back h d.header due
  pub indexes : Left due d.header.start d.room d.vector.indexes p.indexes q.indexes
  pub values : Left due d.header.start d.room d.vector.values p.values q.values

-- ---- a vector comes to a state: a row, with count 1, or the entries of a second state, with its count

-- "a first row begins the state with the capacity for its length and count 1"; of a combine "First not begun: it takes the second's dims,
-- count and entries, with the capacity for its length and len turns." "ROOM for a region .. too short" carries the capacity. That a first
-- row's turns are as many as its entries is document 01's rule for turns, with no entry in the state (`first_turns`, in_place/proofs/First)
abbrev pub begin_of : Header → Vector → Checked
begin_of h v = let capacity = capacity_for v.dims (size v) in refuse (ltb h.length capacity) (Room capacity) Valid

abbrev pub begun : Header → Vector → ℕ → Deed
begun h v count =
    deed (header h.start h.length true v.dims (size v) (capacity_for v.dims (size v)) count) (size v) (size v) v

-- "if capacity isn't dims and capacity - len is below the row's length: NEED, with the capacity for len + length"
abbrev pub needs : Header → ℕ → Bool
needs h n = not (eqb h.capacity h.dims) && ltb (h.capacity - h.len) n

-- "A later row needs equal dims"
abbrev pub merge_of : Header → Vector → ℕ → Checked
merge_of h v more =
    refuse (not (eqb h.dims v.dims)) Differ
    (refuse (too_many h.count more) Count
    (refuse (needs h (size v)) (Need (capacity_for h.dims (h.len + size v)))
    Valid))

-- "Otherwise entries merge as in add, state value first, and count rises"
abbrev pub merged : Header → Pair → Vector → ℕ → Deed
merged h p v more =
    let sum = joins Add (held h p) v in
    deed (header h.start h.length true h.dims (size sum) h.capacity (h.count + more)) (row_turns (held h p) v) h.capacity sum

abbrev pub take_of : Header → Vector → ℕ → Checked
take_of h v more = cond h.begun (merge_of h v more) (begin_of h v)

abbrev pub taken : Header → Pair → Vector → ℕ → Deed
taken h p v more = cond h.begun (merged h p v more) (begun h v more)

-- ---- row: "Checks: row vector .. then the region inside both lists (ROOM), STATE, .."
unfoldable pub row_of : Header → Pair → Vector → Checked
row_of h p v = next (checked_of v) (next (state_of h p) (take_of h v 1))

abbrev pub Rows : Header → Pair → Vector → Result ℕ Refusal → Header → Pair → Type 0
Rows h p v = Acts h (row_of h p v) (taken h p v 1) p

-- ---- combine: "or the second state's region and header; then the region inside both lists (ROOM), STATE, .."
unfoldable pub combine_of : Header → Pair → Header → Pair → Checked
combine_of h p g q = next (state_of g q) (next (state_of h p) (cond g.begun (take_of h (held g q) g.count) Valid))

-- "Second not begun: done, 0 turns, nothing changes."
abbrev pub combined : Header → Pair → Header → Pair → Deed
combined h p g q = cond g.begun (taken h p (held g q) g.count) (deed h 0 0 (vector 0 [] []))

abbrev pub Combines : Header → Pair → Header → Pair → Result ℕ Refusal → Header → Pair → Type 0
Combines h p g q = Acts h (combine_of h p g q) (combined h p g q) p

-- ---- move

-- "a move for n where capacity is dims, or capacity - len is at least n"
abbrev pub spare : Header → ℕ → Bool
spare h n = has_room h.dims h.len h.capacity n

-- "STATE, NOT_BEGUN, 1, .. NEED or NOT_NEEDED, then ROOM for a region or output too short. A move's new region is tested here: first inside
-- its lists, then long enough."
unfoldable pub move_of : Header → Pair → ℕ → Pair → ℕ → ℕ → Checked
move_of h p n q start long =
    let capacity = capacity_for h.dims (h.len + n) in
    next (state_of h p)
    (refuse (not h.begun) NotBegun
    (refuse (ltb h.dims n) Dims
    (refuse (spare h n) NotNeeded
    (refuse (not (inside start long q)) (Room long)
    (refuse (ltb long capacity) (Room capacity)
    Valid)))))

-- "copies a begun state to a region in another pair with the capacity for len + n .. in the new lists only those len entries change"
abbrev pub moved : Header → Pair → ℕ → ℕ → ℕ → Deed
moved h p n start long =
    deed (header start long true h.dims h.len (capacity_for h.dims (h.len + n)) h.count) 0 h.len (held h p)

abbrev pub Moves : Header → Pair → ℕ → Pair → ℕ → ℕ → Result ℕ Refusal → Header → Pair → Type 0
Moves h p n q start long = Acts h (move_of h p n q start long) (moved h p n start long) q

-- ---- sum and average: "write to an output pair and leave the state .. Room: len."
unfoldable pub finish_of : Header → Pair → ℕ → ℕ → Checked
finish_of h p indexes values = next (state_of h p) (refuse (not h.begun) NotBegun (room_of h.len indexes values))

abbrev pub Sums : Header → Pair → List ℕ → List Float → Result Written Refusal → List ℕ → List Float → Type 0
Sums h p oi ov = Leaves (finish_of h p (length oi) (length ov)) (held h p) oi ov

abbrev pub Averages : Header → Pair → List ℕ → List Float → Result Written Refusal → List ℕ → List Float → Type 0
Averages h p oi ov = Leaves (finish_of h p (length oi) (length ov)) (shared h.count (held h p)) oi ov
