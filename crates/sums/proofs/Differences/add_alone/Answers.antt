-- A sum of squared differences takes a place that one side has alone. Assumes nothing.
use Rattle.std.proofs.Common.{rules}
use Rattle.sums.proofs.Quick.{left_alone, right_alone}
use Rattle.sums.proofs.Differences.add_alone.Goals as goal

pub returns-clause-left : goal.returns-clause-left
returns-clause-left c = left_alone c.args.self c.args.v (search rules)

pub returns-clause-right : goal.returns-clause-right
returns-clause-right c = right_alone c.args.self c.args.v (search rules)
