-- Document 01, "What makes a vector valid", and what calls on sparse vectors refuse and write.
use Rattle.std.specs.Prelude.{◌≡◌, ℕ, ◌-◌, Bool, not, ◌&&◌, ◌||◌, List, [], ◌∷◌, length, ◌==◌, nat_le, nat_lt, slice_index, slice_index_or, Float, Result}
use Rattle.std.specs.Float.{nan}
use Rattle.places.specs.Below.{any_below}
use Rattle.places.specs.Search.{first_from}
use Rattle.refusal.specs.Dims.{outside}
use Rattle.refusal.specs.Answers.{Checked, Valid, refuse, next, Says, Answers, leaves, written_says, written}
use Rattle.refusal.specs.declared.Refusal.{Refusal}
use Rattle.refusal.specs.declared.Refusal.TheVariants.{Dims, Length, Order, Index, Zero, Differ, Room}
use Rattle.refusal.specs.declared.Written.{Written}
use Rattle.sparse.specs.Cells.{is_zero}
use Rattle.sparse.specs.Vectors.{Vector, size}

-- "dims in 1..=1,048,575" does not hold
abbrev pub bad_dims : ℕ → Bool
bad_dims = outside 1048575

-- the entry j has an entry before it, and its index is not above that one's
abbrev pub falls : List ℕ → ℕ → Bool
falls is j = nat_lt 0 j && nat_le (slice_index is j) (slice_index is (j - 1))

-- the last index is at or above dims
abbrev pub too_high : ℕ → List ℕ → Bool
too_high d is = nat_lt 0 (length is) && nat_le d (slice_index is (length is - 1))

-- the value of the entry j is a zero
abbrev pub zero_at : List Float → ℕ → Bool
zero_at vs j = is_zero (slice_index_or vs j nan)

-- "Sparse, tested in this order: dims in 1..=1,048,575; equally many indexes and values; indexes strictly increasing; last index below
-- dims; no value equal to zero of either sign. NaN and infinities pass." Order carries "the later entry of the first bad pair", Index
-- the "last entry", Zero the "first such entry"
unfoldable pub checked_of : Vector → Checked
checked_of v =
    refuse (bad_dims v.dims) Dims
    (refuse (not (size v == length v.values)) Length
    (refuse (any_below (falls v.indexes) (size v)) (Order (first_from (falls v.indexes) (size v) 0))
    (refuse (too_high v.dims v.indexes) (Index (size v - 1))
    (refuse (any_below (zero_at v.values) (length v.values)) (Zero (first_from (zero_at v.values) (length v.values) 0))
    Valid))))

-- "Left vector first (1 to 6), then right"
abbrev pub each_of : Vector → Vector → Checked
each_of a b = next (checked_of a) (checked_of b)

-- "then 7"
abbrev pub pair_of : Vector → Vector → Checked
pair_of a b = next (each_of a b) (refuse (not (a.dims == b.dims)) Differ Valid)

-- "output .. too short": one of two lists of so many indexes and values has no room for n entries; carried are the entries needed
abbrev pub room_of : ℕ → ℕ → ℕ → Checked
room_of n indexes values = refuse (nat_lt indexes n || nat_lt values n) (Room n) Valid

-- a call answers, and leaves the vector v in a lent pair of lists, in front of what stood there; or the lists as they were
pub record WritesPair {A : Type 0} (says_of : Result A Refusal → Says) (numbers : List ℕ) (x : A) (due : Checked) (v : Vector)
    (oi : List ℕ) (ov : List Float) (r : Result A Refusal) (oi' : List ℕ) (ov' : List Float) : Type 0 where
  pub answer : Answers says_of numbers [] x due r
  pub indexes : oi' ≡ leaves due v.indexes oi
  pub values : ov' ≡ leaves due v.values ov

-- the vector v is written
abbrev pub Leaves : Checked → Vector → List ℕ → List Float → Result Written Refusal → List ℕ → List Float → Type 0
Leaves due v = WritesPair written_says (v.dims ∷ size v ∷ []) (written v.dims (size v)) due v
