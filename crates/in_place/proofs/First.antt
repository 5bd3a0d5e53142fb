-- Where a row begins: the entries of the state below its first index stay, and no turn is taken for them. Assumes nothing.
use Prim.Native.Nat.{ℕ, zero, suc, ◌+◌, ◌≤◌, ◌<◌}
use native.Mathlib.Omega.{arith}
use mathlib.Core.Bool.{Bool, ◌&&◌}
use mathlib.Core.List.{List, [], ◌∷◌, ◌++◌}
use mathlib.Core.Logic.{⊎_elim}
use mathlib.Core.Path.{◌≡◌, refl, sym, ap, ap₂, ◌∙◌}
use lib.Dec.{leb}
use lib.ListN.{length, get_or, take, drop, length-append, take-append-drop}
use lib.Seq.{length-take-le}
use lib.Ieee.{Float}
use borrow.Author.Tests.{le-leb, lt-leb}
use Rattle.places.specs.Below.{one, count_below}
use Rattle.places.proofs.Below.{le_or_lt, count_zero, count_rest, count_same}
use Rattle.sparse.specs.Cells.{full, look, index_of, indexes_below}
use Rattle.sparse.specs.Vectors.{Vector, vector, size, at, in_union}
use Rattle.sparse.specs.Sound.{Split, Sound}
use Rattle.sparse.specs.declared.Cell.{Cell}
use Rattle.sparse.specs.declared.Cell.TheVariants.{Empty, Full}
use Rattle.sparse.proofs.Entries.{entries_same}
use Rattle.sparse.proofs.Look.{look_gap, split_start, split_on}
use Rattle.sparse.proofs.Slices.{front, rebuilt}
use Rattle.walks.proofs.Stores.{Written}
use Rattle.walks.proofs.Walks.{kept_up}
use Rattle.steps.specs.Places.{added}
use Rattle.merges.specs.declared.Op.TheVariants.{Add}
use Rattle.merges.proofs.Made.{join_at}
use Rattle.in_place.specs.Turns.{first_index, row_turns}

-- ---- the first index of a row

first_least : (is : List ℕ) (d : ℕ) → 0 < length is → get_or is 0 d ≤ get_or is 0 0
first_least [] d h = absurd (omega arith)
first_least (i ∷ is) d h = omega arith

first_below : (is : List ℕ) (d : ℕ) → ((j : ℕ) → j < length is → get_or is j 0 < d) → get_or is 0 d ≤ d
first_below [] d all = omega arith
first_below (i ∷ is) d all = omega (arith, all 0 (omega arith))

module _ (v : Vector) (s : Sound v) where
  pub first_most : first_index v ≤ v.dims
  first_most = first_below v.indexes v.dims s.below

  -- no entry is below it
  pub first_split : Split v.indexes 0 (first_index v)
  first_split =
      split_on v.indexes v.values s.rising 0 0 (split_start v.indexes) (first_index v) (omega arith) (first_least v.indexes v.dims)

  pub first_gap : (k : ℕ) → k < first_index v → at v k ≡ Empty
  first_gap k h =
      look_gap v.indexes v.values s.rising 0 0 (split_start v.indexes) (first_index v) (omega arith)
      (first_least v.indexes v.dims) k (omega arith) h

-- ---- the entries below it

added_empty : (x : Cell) → added x Empty ≡ x
added_empty Empty = refl
added_empty (Full a) = refl

-- they are those of the sum, and stand in front of the state's list
pub written_before : (a b : Vector) → Sound a → Sound b → {low : ℕ} → Split a.indexes low (first_index b) → (si : List ℕ) (sv : List Float)
    → take low a.indexes ≡ take low si → take low a.values ≡ take low sv → Written (join_at Add a b) si sv si sv low (first_index b)
written_before a b sa sb {low} cut si sv ei ev =
    let same = entries_same (join_at Add a b) (at a) (first_index b) (λ k h. rw (first_gap b sb k h) (added_empty (at a k))) in
    let before = front a sa cut in
    let is = same.0 ∙ before.0 in
    let vs = same.1 ∙ before.1 in
    record {
      count = ap length is ∙ length-take-le low a.indexes cut.within;
      indexes = sym (take-append-drop low si) ∙ ap (λ (l : List ℕ). l ++ drop low si) (sym (is ∙ ei));
      values = sym (take-append-drop low sv) ∙ ap (λ (l : List Float). l ++ drop low sv) (sym (vs ∙ ev));
    }

-- ---- the turns

-- places below f and those from f on
count_from : (t : ℕ → Bool) (f d : ℕ) → f ≤ d → count_below t f + count_below (λ k. leb f k && t k) d ≡ count_below t d
unfolding count_below
count_from t f d le = kept_up P f d le step start
  where
    u : ℕ → Bool
    u k = leb f k && t k

    P : ℕ → Type 0
    P m = count_below t f + count_below u m ≡ count_below t m

    start : P f
    start = let e = count_rest u 0 f (omega arith) (λ i a b. rw (lt-leb f i b)) in omega (arith, count_zero u)

    step : (i : ℕ) → f ≤ i → i < d → P i → P (suc i)
    step i a b h = rw (le-leb f i a) (omega arith)

-- as many places are full as there are entries
count_full : (f : ℕ → Cell) (n : ℕ) → count_below (λ k. full (f k)) n ≡ length (indexes_below f n)
unfolding count_below indexes_below
count_full f zero = refl
count_full f (suc n) = simp length-append (ap₂ ◌+◌ (count_full f n) (each (f n)))
  where
    each : (z : Cell) → one (full z) ≡ length (index_of z n)
    each Empty = refl
    each (Full v) = refl

-- where the state has no entry the turns are the row's entries
pub first_turns : (v : Vector) → Sound v → row_turns (vector v.dims [] []) v ≡ size v
unfolding look
first_turns v s =
    count_same (λ k. leb (first_index v) k && in_union (vector v.dims [] []) v k) (λ k. full (at v k)) v.dims
    (λ k h.
    ⊎_elim
    (λ l. rw (le-leb (first_index v) k l))
    (λ l. rw (lt-leb (first_index v) k l, first_gap v s k l))
    (le_or_lt (first_index v) k))
    ∙ count_full (at v) v.dims
    ∙ sym (ap size (rebuilt v s))

pub turns_from : (a b : Vector) → first_index b ≤ a.dims → (turns : ℕ)
    → count_below (in_union a b) (first_index b) + turns ≡ count_below (in_union a b) a.dims → turns ≡ row_turns a b
turns_from a b h turns e = omega (arith, count_from (in_union a b) (first_index b) a.dims h)
