-- `count_below` of `Scan` meets its contract: the indexes that were looked at are below the place. Assumes nothing.
use Rattle.merges.specs.Loops.{Below}
use Rattle.merges.proofs.ScanPassing.count_below.Given as goal

abbrev pub invariant-loop-k : goal.invariant-loop-k
invariant-loop-k l = Below l.rest l.place l.k
