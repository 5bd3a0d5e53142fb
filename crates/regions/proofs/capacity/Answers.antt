-- `regions::capacity` meets its contract: the next power of two is that of the exponent. Assumes nothing.
use Rattle.std.proofs.Common.{sym}
use Rattle.regions.specs.Capacity.{capacity_for}
use Rattle.regions.proofs.Capacities.{power_least, cap_full}
use Rattle.regions.proofs.capacity.Goals as goal

pub returns-then-most-n : goal.returns-then-most-n
returns-then-most-n c = sym (cap_full c.args.dims c.args.n c.if-most-n.true)

pub returns : goal.returns
unfolding capacity_for
returns c = let p = rw c.max.ensures at c.next_power_of_two-power.ensures in
    rw (c.min.ensures, power_least c.args.n p.power.0 _ p.power.1 p.lower_bound p.upper_bound)
