-- A loop that writes the full places below n in rising order, one store after the other. Assumes nothing.
use Rattle.std.proofs.Common.{ℕ, suc, ◌+◌, ◌≤◌, ◌<◌, add-one, arith, List, [], ◌∷◌, ◌++◌, append_assoc, append-nil, ◌≡◌, refl, ap, ◌∙◌, length, get_or, set, drop, length-append, length-drop, drop-cons, Float}
use lib.Seq.{set_at}
use Rattle.sparse.specs.Cells.{index_of, value_of, indexes_below, values_below}
use Rattle.sparse.specs.declared.Cell.{Cell}
use Rattle.sparse.specs.declared.Cell.TheVariants.{Empty, Full}
use Rattle.sparse.proofs.Entries.{indexes_empty, values_empty, entries_most, as_many}
use Rattle.walks.specs.Walk.{put_index, put_value, put_count, Put}

-- a store at the end of what was stored
snoc {ℓ} : {A : Type ℓ} (xs old : List A) (n : ℕ) (a : A) → length xs ≡ n → n < length old
    → set (xs ++ drop n old) n a ≡ (xs ++ (a ∷ [])) ++ drop (n + 1) old
snoc xs old n a e h = rw (add-one, drop-cons old n a h, set_at xs (get_or old n a) (drop (suc n) old) a n e, append_assoc)

store_index : (z : Cell) (xs old : List ℕ) (n k : ℕ) → length xs ≡ n → n < length old
    → put_index z (xs ++ drop n old) n k ≡ (xs ++ index_of z k) ++ drop (put_count z n) old
store_index Empty xs old n k e h = rw append-nil
store_index (Full v) xs old n k e h = snoc xs old n k e h

store_value : (z : Cell) (xs old : List Float) (n : ℕ) → length xs ≡ n → n < length old
    → put_value z (xs ++ drop n old) n ≡ (xs ++ value_of z) ++ drop (put_count z n) old
store_value Empty xs old n e h = rw append-nil
store_value (Full v) xs old n e h = snoc xs old n v e h

store_count : (z : Cell) (xs : List ℕ) (n k : ℕ) → length xs ≡ n → length (xs ++ index_of z k) ≡ put_count z n
store_count Empty xs n k e = rw append-nil e
store_count (Full v) xs n k e = rw length-append (omega arith)

pub put_most : (z : Cell) (n : ℕ) → put_count z n ≤ n + 1
put_most Empty n = omega arith
put_most (Full v) n = omega arith

-- ---- a loop that writes f: the first n entries are those of f below k, and the others are as they were
pub record Written (f : ℕ → Cell) (oi : List ℕ) (ov : List Float) (oi' : List ℕ) (ov' : List Float) (n k : ℕ) : Type 0 where
  pub count : length (indexes_below f k) ≡ n
  pub indexes : oi' ≡ indexes_below f k ++ drop n oi
  pub values : ov' ≡ values_below f k ++ drop n ov

pub written_none : {f : ℕ → Cell} {oi : List ℕ} {ov : List Float} → Written f oi ov oi ov 0 0
unfolding indexes_below values_below
written_none = record { count = refl; indexes = refl; values = refl }

module _ {f : ℕ → Cell} {oi : List ℕ} {ov : List Float} {oi' : List ℕ} {ov' : List Float} {n k : ℕ} (w : Written f oi ov oi' ov' n k) where
  -- an empty place more
  pub written_empty : f k ≡ Empty → Written f oi ov oi' ov' n (suc k)
  written_empty e =
      let i = indexes_empty f k e in
      record { count = rw i w.count; indexes = rw i w.indexes; values = rw (values_empty f k e) w.values }

  -- no more entries are written than places are passed
  pub written_most : n ≤ k
  written_most = omega (arith, w.count, entries_most f k)

  -- the stores leave the lengths
  pub written_lengths : n ≤ length oi → n ≤ length ov → (length oi' ≡ length oi) × (length ov' ≡ length ov)
  written_lengths h l =
      let c = w.count in
      let e = as_many f k in
      (rw w.indexes (simp (length-append, length-drop) (omega arith)), rw w.values (simp (length-append, length-drop) (omega arith)))

  -- one place more
  pub written_more : {z : Cell} {n' : ℕ} {oi'' : List ℕ} {ov'' : List Float} → n < length oi → n < length ov → z ≡ f k
      → Put z k n oi' ov' n' oi'' ov'' → Written f oi ov oi'' ov'' n' (suc k)
  unfolding indexes_below values_below
  written_more {z} ri rv e put =
      let c = put.count ∙ ap (λ (y : Cell). put_count y n) e in
      record {
        count = rw c (store_count (f k) (indexes_below f k) n k w.count);
        indexes = rw c
            (put.indexes
            ∙ ap (λ (y : Cell). put_index y oi' n k) e
            ∙ ap (λ (x : List ℕ). put_index (f k) x n k) w.indexes
            ∙ store_index (f k) (indexes_below f k) oi n k w.count ri);
        values = rw c
            (put.values
            ∙ ap (λ (y : Cell). put_value y ov' n) e
            ∙ ap (λ (x : List Float). put_value (f k) x n) w.values
            ∙ store_value (f k) (values_below f k) ov n (as_many f k ∙ w.count) rv);
      }
