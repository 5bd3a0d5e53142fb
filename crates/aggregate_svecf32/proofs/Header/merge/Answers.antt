-- `Header::merge` meets its contract: each test refuses as it has to, and where none does the vector is merged in place in the region, and the
-- header says so. Assumes nothing.
use Rattle.std.proofs.Common.{◌≡◌, true, false, length, rules, sym, ◌∙◌, arith}
use Rattle.sparse.specs.Vectors.{seen}
use Rattle.sparse.proofs.Checks.{size_most}
use Rattle.regions.specs.Regions.{Pair, pair}
use Rattle.headers.specs.Headers.{too_many}
use Rattle.aggregate_svecf32.specs.Calls.{spare}
use Rattle.aggregate_svecf32.proofs.Consistent.{Inside, Sure, state_sure}
use Rattle.aggregate_svecf32.proofs.Joined.{merge_roomy, merge_done}
use Rattle.aggregate_svecf32.proofs.Header.merge.Goals as goal
use Rattle.aggregate_svecf32.proofs.Header.merge.Goals.{Else-are_too_many, Else-self-v, Else-not-has_room}

abbrev lists : Else-self-v → Pair
lists s = pair s.args.ai.now s.args.av.now

-- the state passed its tests
sure : (s : Else-self-v) → Sure s.args.self.now (lists s)
sure s = state_sure s.args.self.now (lists s) s.requires.given.state s.requires.begun

inner : (c : Else-not-has_room) → Inside c.args.self.now (pair c.args.ai.now c.args.av.now)
inner c = (sure (goal.at.Else-not-has_room c).Else-self-v).inside

-- the counts' sum does not pass the most rows
few : (c : Else-are_too_many) → let a = c.args in too_many a.self.now.count a.more ≡ false
few c = sym (rw c.numbers.ensures at c.are_too_many.ensures) ∙ c.if-are_too_many.false

-- it has room, or a place for every entry
spares : (c : Else-not-has_room) → spare c.args.self.now (length c.args.v.indexes.now) ≡ true
spares c = sym c.has_room.ensures ∙ c.if-not-has_room.false

pub has_room-requires : goal.has_room-requires
has_room-requires c = (sure (goal.at.has_room-requires c).Else-self-v).fair.room

pub overflow_add-self : goal.overflow_add-self
overflow_add-self c = let s = (goal.at.overflow_add-self c).Else-self-v in
    let f = (sure s).fair.sound in
    let g = s.requires.given.row in
    omega (arith, (sure s).many, size_most f, f.high, size_most g, g.high)

pub overflow_add-end : goal.overflow_add-end
overflow_add-end c = let i = inner (goal.at.overflow_add-end c).Else-not-has_room in search rules

pub offset_bounds-ai-start : goal.offset_bounds-ai-start
offset_bounds-ai-start c = let i = inner (goal.at.offset_bounds-ai-start c).Else-not-has_room in search rules

pub offset_bounds-av-start : goal.offset_bounds-av-start
offset_bounds-av-start c = let i = inner (goal.at.offset_bounds-av-start c).Else-not-has_room in search rules

pub slice_bounds-si-end : goal.slice_bounds-si-end
slice_bounds-si-end c = let i = inner (goal.at.slice_bounds-si-end c).Else-not-has_room in search rules

pub slice_bounds-sv-end : goal.slice_bounds-sv-end
slice_bounds-sv-end c = let i = inner (goal.at.slice_bounds-sv-end c).Else-not-has_room in search rules

pub merge_in_place-m-requires-clause-fits : goal.merge_in_place-m-requires-clause-fits
merge_in_place-m-requires-clause-fits c = (sure (goal.at.merge_in_place-m-requires-clause-fits c).Else-self-v).fair.room

pub merge_in_place-m-requires-clause-roomy : goal.merge_in_place-m-requires-clause-roomy
merge_in_place-m-requires-clause-roomy c = let e = (goal.at.merge_in_place-m-requires-clause-roomy c).Else-not-has_room in
    let s = (goal.at.merge_in_place-m-requires-clause-roomy c).Else-self-v in
    merge_roomy s.args.self.now (lists s) (seen s.args.v) s.args.more s.requires.begun s.requires.given s.if-self-v.false (spares e)

pub returns : goal.returns
returns c = let e = (goal.at.returns c).Else-not-has_room in
    let k = (goal.at.returns c).Else-are_too_many in
    let s = (goal.at.returns c).Else-self-v in
    merge_done s.args.self.now (lists s) (seen s.args.v) s.args.more s.requires.begun s.requires.given s.if-self-v.false (few k) (spares e)
    c.merge_in_place-m.ensures
