-- `walks::partition_point` meets its contract: the indexes rise, so those below the place come first. Assumes nothing.
use Rattle.std.proofs.Common.{ltb, rules}
use Rattle.std.proofs.lemmas.List.Sorted.{IsPartitionPoint-from_clause}
use Rattle.walks.proofs.Points.{parted, split_at}
use Rattle.walks.proofs.partition_point.Goals as goal

pub returns : goal.returns
returns c =
    let found = IsPartitionPoint-from_clause (λ i. ltb i c.args.place) _ _ c.partition_point.ensures.partitioned
    (parted _ _ c.requires) (λ a r f k. search rules) in
    split_at _ _ _ c.partition_point.ensures.bound found
