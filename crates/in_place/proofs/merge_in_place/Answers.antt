-- `in_place::merge_in_place` meets its contract: the move to the far end and the merge up from there make one merge. Assumes nothing.
use Rattle.std.proofs.Common.{take}
use Rattle.sparse.specs.Vectors.{seen}
use Rattle.sparse.specs.Sound.{Split}
use Rattle.in_place.specs.Turns.{first_index}
use Rattle.in_place.proofs.Whole.{raised, grown}
use Rattle.in_place.proofs.merge_in_place.Goals as goal
use Rattle.in_place.proofs.merge_in_place.Goals.{After-partition_point-low}

-- the entries below the row's first index
cut : (c : After-partition_point-low) → let a = c.args in Split (take a.len a.si.now) c.partition_point-low.result (first_index (seen a.row))
cut c = rw c.first_index.ensures at c.partition_point-low.ensures

pub merge_up-requires : goal.merge_up-requires
merge_up-requires c = let r = c.requires in
    raised r.fits r.roomy (cut (goal.at.merge_up-requires c).After-partition_point-low) c.copy_within.ensures.after c.copy_within-2.ensures.after

pub returns : goal.returns
returns c = let r = c.requires in
    grown r.fits r.roomy (cut (goal.at.returns c).After-partition_point-low) c.copy_within.ensures.after c.copy_within-2.ensures.after
    c.merge_up.ensures
