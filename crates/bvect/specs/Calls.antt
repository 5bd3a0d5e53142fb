-- What the calls of `bvect` promise: the tests of each in their order, the answer, and what is left in a lent output.
use Rattle.std.specs.Prelude.{ℕ, ◌+◌, ◌-◌, Bool, false, ◌&&◌, cond, List, leb, eqb, length, Option, Some, None, Result}
use Rattle.std.specs.declared.cmp.Ordering.{Ordering}
use Rattle.std.specs.declared.ops.Bound.{Bound}
use Rattle.refusal.specs.Answers.{Valid, refuse, next, Asks, Orders, Writes}
use Rattle.refusal.specs.Bounds.{start_of, end_of, bad_bounds}
use Rattle.refusal.specs.declared.Refusal.{Refusal}
use Rattle.refusal.specs.declared.Refusal.TheVariants.{Dims, Index, Bounds}
use Rattle.refusal.specs.declared.Written.{Written}
use Rattle.bits.specs.Bits.{bit_at, words_of}
use Rattle.bits.specs.Vectors.{BitVector}
use Rattle.bits.specs.Calls.{bad_dims, checked_of, each_of, room_of}
use Rattle.bit_orders.specs.Orders.{same_words, order_below}
pub use Rattle.bit_distances.specs.Calls.{Dots, Hammings, Jaccards, JaccardsOrNan}

-- "ceil(dims/64) words of room, as for AND, OR, XOR and zero"; without a vector to test, dims and then room
abbrev pub Zeroes : ℕ → List ℕ → Result Written Refusal → List ℕ → Type 0
Zeroes d old r left = Writes (refuse (bad_dims d) Dims (room_of d (length old))) d (words_of d (λ i. false)) old r left

-- "`get` tests its index after the vector", and carries "the index asked"
abbrev pub Gets : BitVector → ℕ → Result Bool Refusal → Type 0
Gets v i = Asks (bit_at v.words i) (next (checked_of v) (refuse (leb v.dims i) (Index i) Valid))

-- "The slice has dims end - start"; "Bits likewise, with clear padding and ceil(dims/64) words of room"
abbrev pub Cuts : BitVector → Bound ℕ → Bound ℕ → List ℕ → Result Written Refusal → List ℕ → Type 0
Cuts v from to old r left =
    Writes
    (next (checked_of v) (refuse (bad_bounds from to v.dims) Bounds (room_of (end_of v.dims to - start_of from) (length old))))
    (end_of v.dims to - start_of from)
    (words_of (end_of v.dims to - start_of from) (λ i. bit_at v.words (start_of from + i)))
    old r left

-- "Equality: dims and all words."
abbrev pub Equals : BitVector → BitVector → Result Bool Refusal → Type 0
Equals a b = Asks (eqb a.dims b.dims && same_words a.words b.words) (each_of a b)

-- "Bit order: dims differ, no order. Otherwise the position of the lowest differing bit decides"
abbrev pub order_of : BitVector → BitVector → Option Ordering
order_of a b = cond (eqb a.dims b.dims) (Some (order_below (bit_at a.words) (bit_at b.words) a.dims)) None

abbrev pub Compares : BitVector → BitVector → Result (Option Ordering) Refusal → Type 0
Compares a b = Orders (order_of a b) (each_of a b)
