-- What the laws of the sparse order speak of: the dense vectors, their order, and an answer turned round. Request #107: "turning the operands
-- round mirrors every answer, and .. without NaN the order is the dense one, first differing index deciding". No contract cites these.
use Rattle.std.specs.Prelude.{ℕ, ◌<◌, Bool, true, false, not, cond, ◌≡◌, ltb, Float, Option, Some, None, Result, Ok, Err}
use Rattle.std.specs.Float.Ieee.{eq, is_nan}
use Rattle.std.specs.Option.{option_map}
use Rattle.std.specs.Ordering.{ordering_reverse}
use Rattle.std.specs.declared.cmp.Ordering.{Ordering}
use Rattle.std.specs.declared.cmp.Ordering.TheVariants.{Less, Equal, Greater}
use Rattle.places.specs.Search.{first_from}
use Rattle.refusal.specs.declared.Refusal.{Refusal}
use Rattle.sparse.specs.Cells.{zero32}
use Rattle.sparse.specs.Vectors.{Vector, size, at}
use Rattle.sparse.specs.declared.Cell.{Cell}
use Rattle.sparse.specs.declared.Cell.TheVariants.{Empty, Full}
use Rattle.sparse_orders.specs.Orders.{value_at, compared}

-- ---- an answer turned round

-- an answer that is no refusal: an order, or that there is none
abbrev pub answered : Result (Option Ordering) Refusal → Bool
answered (Ok o) = true
answered (Err r) = false

-- "mirrors every answer": Less and Greater exchanged, the others kept
abbrev pub turn : Option Ordering → Option Ordering
turn = option_map ordering_reverse

abbrev pub mirror : Result (Option Ordering) Refusal → Result (Option Ordering) Refusal
mirror (Ok o) = Ok (turn o)
mirror (Err r) = Err r

-- ---- the dense vectors

abbrev pub value_or0 : Cell → Float
value_or0 Empty = zero32
value_or0 (Full x) = x

-- the value at each place; "Absent means zero."
abbrev pub dense : Vector → ℕ → Float
dense v k = value_or0 (at v k)

-- "first differing index": the lowest of d places at which two dense vectors differ, and d where they differ at none
abbrev pub first_apart : ℕ → (ℕ → Float) → (ℕ → Float) → ℕ
first_apart d f g = first_from (λ k. not (eq (f k) (g k))) d 0

-- "first differing index deciding": Equal if every place has equal values, else the comparison of the two values at the lowest place at
-- which they differ
abbrev pub dense_order : ℕ → (ℕ → Float) → (ℕ → Float) → Option Ordering
dense_order d f g = let k = first_apart d f g in cond (ltb k d) (compared (f k) (g k)) (Some Equal)

-- ---- what sorting needs

-- "without NaN": no value is one
abbrev pub NoNan : Vector → Type 0
NoNan v = (i : ℕ) → i < size v → is_nan (value_at v i) ≡ false

-- Less or Equal
abbrev pub not_above : Option Ordering → Bool
not_above (Some Less) = true
not_above (Some Equal) = true
not_above (Some Greater) = false
not_above None = false

abbrev pub up_to : Result (Option Ordering) Refusal → Bool
up_to (Ok o) = not_above o
up_to (Err r) = false
