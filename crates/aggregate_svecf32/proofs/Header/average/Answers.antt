-- `Header::average` meets its contract: after the tests each entry that the state holds is divided. Assumes nothing.
use Rattle.std.proofs.Common.{◌≡◌, ◌+◌, ◌≤◌, length, sym, ◌∙◌}
use Rattle.refusal.specs.Answers.{Valid}
use Rattle.refusal.proofs.Told.{checked_told}
use Rattle.regions.specs.Regions.{both}
use Rattle.aggregate_svecf32.specs.Calls.{finish_of}
use Rattle.aggregate_svecf32.proofs.Held.{ends_inside}
use Rattle.aggregate_svecf32.proofs.Finishing.{finish_sure, average_fits, average_done}
use Rattle.aggregate_svecf32.proofs.Header.average.Goals as goal
use Rattle.aggregate_svecf32.proofs.Header.average.Goals.{In_ok-ready_to_write}

-- the tests found nothing
due : (c : In_ok-ready_to_write) → let a = c.args in finish_of a.self (both a.lists) (length a.oi.now) (length a.ov.now) ≡ Valid
due c = sym (checked_told c.ready_to_write.ensures) ∙ c.in_ok-ready_to_write.was

-- and so the state's end lies inside both lists
inner : (c : In_ok-ready_to_write) → let a = c.args in
    (a.self.start + a.self.len ≤ length a.lists.indexes.now) × (a.self.start + a.self.len ≤ length a.lists.values.now)
inner c = let a = c.args in ends_inside (finish_sure a.self (both a.lists) a.oi.now a.ov.now (due c))

pub vector-held-requires-clause-indexes : goal.vector-held-requires-clause-indexes
vector-held-requires-clause-indexes c = (inner (goal.at.vector-held-requires-clause-indexes c).In_ok-ready_to_write).0

pub vector-held-requires-clause-values : goal.vector-held-requires-clause-values
vector-held-requires-clause-values c = (inner (goal.at.vector-held-requires-clause-values c).In_ok-ready_to_write).1

pub divide-n-requires : goal.divide-n-requires
divide-n-requires c = let t = (goal.at.divide-n-requires c).In_ok-ready_to_write in
    let a = t.args in
    rw c.vector-held.ensures (average_fits a.self (both a.lists) a.oi.now a.ov.now (due t))

pub returns : goal.returns
returns c = let t = (goal.at.returns c).In_ok-ready_to_write in
    let a = t.args in
    average_done a.self (both a.lists) a.oi.now a.ov.now (due t) c.vector-held.ensures c.divide-n.ensures
