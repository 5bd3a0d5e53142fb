-- `folds::three_sums` meets its contract: the tests of two vectors, then the three sums over them. Assumes nothing.
use Rattle.folds.proofs.Answered.{passed}
use Rattle.folds.proofs.three_sums.Goals as goal

pub sum_of-requires : goal.sum_of-requires
sum_of-requires c = passed c.check_pair.ensures c.in_ok-check_pair.was
