-- `Header::sum` meets its contract: after the tests the entries that the state holds are copied. Assumes nothing.
use Rattle.std.proofs.Common.{◌≡◌, length, sym, ◌∙◌}
use Rattle.refusal.specs.Answers.{Valid}
use Rattle.refusal.proofs.Told.{checked_told}
use Rattle.regions.specs.Regions.{both}
use Rattle.aggregate_svecf32.specs.Calls.{finish_of}
use Rattle.aggregate_svecf32.proofs.Finishing.{sum_fits, sum_done}
use Rattle.aggregate_svecf32.proofs.Header.sum.Goals as goal
use Rattle.aggregate_svecf32.proofs.Header.sum.Goals.{In_ok-ready_to_write}

-- the tests found nothing
due : (c : In_ok-ready_to_write) → let a = c.args in finish_of a.self (both a.lists) (length a.oi.now) (length a.ov.now) ≡ Valid
due c = sym (checked_told c.ready_to_write.ensures) ∙ c.in_ok-ready_to_write.was

pub copy-requires : goal.copy-requires
copy-requires c = let t = (goal.at.copy-requires c).In_ok-ready_to_write in
    let a = t.args in
    sum_fits a.self (both a.lists) a.oi.now a.ov.now (due t)

pub returns : goal.returns
returns c = let t = (goal.at.returns c).In_ok-ready_to_write in
    let a = t.args in
    sum_done a.self (both a.lists) a.oi.now a.ov.now (due t) c.copy.ensures
