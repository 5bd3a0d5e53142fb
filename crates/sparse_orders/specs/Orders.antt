-- Document 01, "Slices and order": how sparse vectors of equal dims compare, and when they are equal.
use Rattle.std.specs.Prelude.{ℕ, min, Bool, not, ◌&&◌, cond, ltb, eqb, get_or, Float, Option, Some, None}
use Rattle.std.specs.Float.{nan}
use Rattle.std.specs.Float.Ieee.{eq, lt}
use Rattle.std.specs.declared.cmp.Ordering.{Ordering}
use Rattle.std.specs.declared.cmp.Ordering.TheVariants.{Less, Equal, Greater}
use Rattle.places.specs.Below.{any_below}
use Rattle.places.specs.Search.{first_from}
use Rattle.sparse.specs.Cells.{zero32}
use Rattle.sparse.specs.Vectors.{Vector, size}

-- the index and the value of the entry i
abbrev pub index_at : Vector → ℕ → ℕ
index_at v i = get_or v.indexes i 0

abbrev pub value_at : Vector → ℕ → Float
value_at v i = get_or v.values i nan

-- the entries i are the same; "NaN equals nothing"
abbrev pub same_entry : Vector → Vector → ℕ → Bool
same_entry a b i = eqb (index_at a i) (index_at b i) && eq (value_at a i) (value_at b i)

-- "Equality: same dims and entries"
abbrev pub same_entries : Vector → Vector → Bool
same_entries a b = eqb (size a) (size b) && not (any_below (λ i. not (same_entry a b i)) (size a))

-- ---- order

-- "compare values, .. no order if either is NaN"
abbrev pub compared : Float → Float → Option Ordering
compared x y = cond (lt x y) (Some Less) (cond (lt y x) (Some Greater) (cond (eq x y) (Some Equal) None))

-- a value x of an index that the right side does not have, against the zero y there; or the other way round. Request #107: "if the entry
-- that decides is a NaN there is no order." (Document 01 had Greater for what is not below; a vector that passed its tests has no zeros.)
abbrev pub alone : Float → Float → Option Ordering
alone x y = cond (lt x y) (Some Less) (cond (lt y x) (Some Greater) None)

-- the entries x at i and y at j decide. "Left index smaller: .. the left value .. Right index smaller: .. the right value"
abbrev pub entries_decide : ℕ → Float → ℕ → Float → Option Ordering
entries_decide i x j y = cond (eqb i j) (compared x y) (cond (ltb i j) (alone x zero32) (alone zero32 y))

-- "One list ended: that side counts as zero against the other's next value (NaN: no order); both ended: equal."
abbrev pub decided : Vector → Vector → ℕ → Option Ordering
decided a b i =
    cond (ltb i (size a))
    (cond (ltb i (size b)) (entries_decide (index_at a i) (value_at a i) (index_at b i) (value_at b i)) (compared (value_at a i) zero32))
    (cond (ltb i (size b)) (compared zero32 (value_at b i)) (Some Equal))

-- "walk both lists. Equal indexes: compare values, go on if equal": the first entries that are not the same decide
abbrev pub order_by : Vector → Vector → Option Ordering
order_by a b = decided a b (first_from (λ i. not (same_entry a b i)) (min (size a) (size b)) 0)
