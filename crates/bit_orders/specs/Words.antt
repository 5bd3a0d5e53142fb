-- What the loops over words promise to the calls above them. A user's promises do not cite these.
use Rattle.std.specs.Prelude.{ℕ, ◌*◌, List, length}
use Rattle.std.specs.declared.cmp.Ordering.{Ordering}
use Rattle.bits.specs.Bits.{bit_of, bit_at}
use Rattle.bit_orders.specs.Orders.{order_below}

-- the order of two words, and of all words of two lists
abbrev pub word_order : ℕ → ℕ → Ordering
word_order x y = order_below (bit_of x) (bit_of y) 64

abbrev pub words_order : List ℕ → List ℕ → Ordering
words_order a b = order_below (bit_at a) (bit_at b) (64 * length a)
