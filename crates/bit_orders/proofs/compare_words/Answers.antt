-- `bit_orders::compare_words` meets its contract: the trailing zeros of the XOR are the lowest differing bit. Assumes nothing.
use lib.Bits.{bit_xor}
use lib.Count.{count_trailing_zeros}
use Rattle.bit_orders.proofs.Lowest.{Lowest}
use Rattle.bit_orders.proofs.Orders.{first_lowest, word_greater, word_less}
use Rattle.bit_orders.proofs.compare_words.Goals as goal
use Rattle.bit_orders.proofs.compare_words.Goals.{Start}

-- the lowest differing bit, in the word
low : (c : Start) → let a = c.args in Lowest 64 (bit_xor a.x a.y) (count_trailing_zeros 64 (bit_xor a.x a.y))
low c = first_lowest c.args.x c.args.y c.ranges.x.fits c.ranges.y.fits c.requires

pub overflow_shr-left : goal.overflow_shr-left
overflow_shr-left c = (low c).inside

pub overflow_shr-right : goal.overflow_shr-right
overflow_shr-right c = (low c).inside

pub returns-then-right-left : goal.returns-then-right-left
returns-then-right-left c = rw (word_greater c.args.x c.args.y c.ranges.x.fits c.ranges.y.fits c.requires c.if-right-left.true)

pub returns : goal.returns
returns c = rw (word_less c.args.x c.args.y c.ranges.x.fits c.ranges.y.fits c.requires c.if-right-left.false)
