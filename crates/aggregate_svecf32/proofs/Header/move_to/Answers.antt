-- `Header::move_to` meets its contract: after the tests the entries that the state holds are copied to the new region. Assumes nothing.
use Rattle.std.proofs.Common.{◌≡◌, refl, sym, ◌∙◌}
use borrow.Author.Rules.{rules}
use Rattle.refusal.specs.Answers.{Valid}
use Rattle.refusal.proofs.Told.{checked_told}
use Rattle.regions.specs.Regions.{Pair, pair, both}
use Rattle.aggregate_svecf32.specs.Calls.{move_of}
use Rattle.aggregate_svecf32.proofs.Moved.{sure_few, Moving, moving, move_fits, move_done, moved_header}
use Rattle.aggregate_svecf32.proofs.Header.move_to.Goals as goal
use Rattle.aggregate_svecf32.proofs.Header.move_to.Goals.{In_ok-ready_to_move}

abbrev lists : In_ok-ready_to_move → Pair
lists c = pair c.args.ci.now c.args.cv.now

-- the tests found nothing
due : (c : In_ok-ready_to_move) → let a = c.args in move_of a.self.now (both a.lists) a.more (lists c) a.start a.length ≡ Valid
due c = sym (checked_told (c.ready_to_move.ensures)) ∙ c.in_ok-ready_to_move.was

known : (c : In_ok-ready_to_move) → let a = c.args in Moving a.self.now (both a.lists) a.more (lists c) a.start a.length
known c = let a = c.args in moving a.self.now (both a.lists) a.more (lists c) a.start a.length (due c)

pub copy-requires : goal.copy-requires
copy-requires c = let t = (goal.at.copy-requires c).In_ok-ready_to_move in
    let a = t.args in
    move_fits a.self.now (both a.lists) a.more (lists t) a.start a.length (known t)

pub overflow_add-self : goal.overflow_add-self
overflow_add-self c = let m = known (goal.at.overflow_add-self c).In_ok-ready_to_move in
    let few = sure_few m.sure in
    let d = m.dims in
    search rules

pub returns : goal.returns
returns c = let t = (goal.at.returns c).In_ok-ready_to_move in
    let a = t.args in
    let d = move_done a.self.now (both a.lists) a.more (lists t) a.start a.length (known t) (due t) c.copy.ensures in
    rw (← moved_header a.self.now (both a.lists) a.more (lists t) a.start a.length (known t) c.capacity-capacity.ensures) d
