-- What the calls on bit vectors refuse, in their order.
use Rattle.std.specs.Prelude.{ℕ, ◌-◌, ◌*◌, Bool, not, ◌&&◌, List, leb, ltb, eqb, length}
use Rattle.places.specs.Below.{any_below}
use Rattle.refusal.specs.Dims.{outside}
use Rattle.refusal.specs.Answers.{Checked, Valid, refuse, next}
use Rattle.refusal.specs.declared.Refusal.TheVariants.{Dims, Length, Padding, Differ, Room}
use Rattle.bits.specs.Bits.{bit_at, words_for}
use Rattle.bits.specs.Vectors.{BitVector}

-- "dims in 1..=65,535" does not hold
abbrev pub bad_dims : ℕ → Bool
bad_dims = outside 65535

-- "a padding bit is set": some place at or above dims that the words have holds a one. The number of words is tested first, so that
-- such a place is in the last word
unfoldable pub padded : ℕ → List ℕ → Bool
padded d ws = any_below (λ i. leb d i && bit_at ws i) (64 * length ws)

-- "Bits: dims in 1..=65,535; exactly ceil(dims/64) words; bits of the last word at and above dims mod 64 are zero when dims mod 64
-- isn't 0"; Padding carries the last word
unfoldable pub checked_of : BitVector → Checked
checked_of v =
    refuse (bad_dims v.dims) Dims
    (refuse (not (eqb (length v.words) (words_for v.dims))) Length
    (refuse (padded v.dims v.words) (Padding (length v.words - 1))
    Valid))

-- "Left vector first (1 to 6), then right"
abbrev pub each_of : BitVector → BitVector → Checked
each_of a b = next (checked_of a) (checked_of b)

-- "then 7"
abbrev pub pair_of : BitVector → BitVector → Checked
pair_of a b = next (each_of a b) (refuse (not (eqb a.dims b.dims)) Differ Valid)

-- "output .. too short": an output of `room` words does not hold a vector of d bits; carried are the words needed
abbrev pub room_of : ℕ → ℕ → Checked
room_of d room = refuse (ltb room (words_for d)) (Room (words_for d)) Valid
