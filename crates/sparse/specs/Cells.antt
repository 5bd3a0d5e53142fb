-- What stands at a place of a sparse vector, and the lists of what stands at the places below n.
use Rattle.std.specs.Prelude.{ℕ, zero, suc, Bool, true, false, cond, List, [], ◌∷◌, ◌++◌, ◌==◌, from_bits, Float}
use Rattle.std.specs.Float.{binary32}
use Rattle.std.specs.Float.Ieee.{eq}
use Rattle.sparse.specs.declared.Cell.{Cell}
use Rattle.sparse.specs.declared.Cell.TheVariants.{Empty, Full}

-- +0, the float of the bits 00000000
abbrev pub zero32 : Float
zero32 = from_bits binary32 0

-- "zero of either sign": -0 equals +0
abbrev pub is_zero : Float → Bool
is_zero v = eq v zero32

-- "zeros are dropped"
abbrev pub keep : Float → Cell
keep v = cond (is_zero v) Empty (Full v)

abbrev pub full : Cell → Bool
full Empty = false
full (Full v) = true

-- what a vector holds at the place k: the value beside the first index that is k, if there is one
unfoldable pub look : List ℕ → List Float → ℕ → Cell
look [] vs k = Empty
look (i ∷ is) [] k = Empty
look (i ∷ is) (v ∷ vs) k = cond (i == k) (Full v) (look is vs k)

-- the index and the value of the place k, if it is full
abbrev pub index_of : Cell → ℕ → List ℕ
index_of Empty k = []
index_of (Full v) k = k ∷ []

abbrev pub value_of : Cell → List Float
value_of Empty = []
value_of (Full v) = v ∷ []

-- the indexes, and the values, of the full places below n, in rising order
unfoldable pub indexes_below : (ℕ → Cell) → ℕ → List ℕ
indexes_below f zero = []
indexes_below f (suc n) = indexes_below f n ++ index_of (f n) n

unfoldable pub values_below : (ℕ → Cell) → ℕ → List Float
values_below f zero = []
values_below f (suc n) = values_below f n ++ value_of (f n)

-- what two vectors' places below n come to, from `start`, one step after the other in rising order
unfoldable pub fold_below : {A : Type 0} → (A → Cell → Cell → A) → A → (ℕ → Cell) → (ℕ → Cell) → ℕ → A
fold_below step start f g zero = start
fold_below step start f g (suc n) = step (fold_below step start f g n) (f n) (g n)
