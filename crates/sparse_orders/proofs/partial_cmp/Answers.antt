-- `sparse_orders::partial_cmp` meets its contract: the first entries that are not the same decide. Assumes nothing.
use Rattle.std.proofs.Common.{sym, ◌∙◌}
use Rattle.refusal.proofs.Told.{checked_told}
use Rattle.sparse.specs.Sound.{Sound}
use Rattle.sparse.specs.Vectors.{seen}
use Rattle.sparse.proofs.Checks.{each_sound}
use Rattle.sparse_orders.proofs.partial_cmp.Goals as goal
use Rattle.sparse_orders.proofs.partial_cmp.Goals.{In_ok-check_each}

-- the vectors passed their tests
whole : (c : In_ok-check_each) → Sound (seen c.args.a) × Sound (seen c.args.b)
whole c = each_sound (seen c.args.a) (seen c.args.b) (sym (checked_told c.check_each.ensures) ∙ c.in_ok-check_each.was)

pub first_other-requires : goal.first_other-requires
first_other-requires c = whole (goal.at.first_other-requires c).In_ok-check_each

pub compare_at-requires : goal.compare_at-requires
compare_at-requires c = whole (goal.at.compare_at-requires c).In_ok-check_each
