-- What a slice is that the bounds name, by its entries. Assumes nothing.
use Rattle.std.proofs.Common.{◌≡◌, ℕ, ◌+◌, ◌-◌, ◌<◌, ◌≤◌, List, ◌++◌, Ok, length, length-drop, length-take-le, get_or, get_or-drop, get_or-take, take, drop, sym, ap, ap₂, ◌∙◌, arith}
use Rattle.std.specs.declared.ops.Bound.{Bound}
use lib.Ieee.{Float, nan}
use Rattle.places.specs.Below.{list_below}
use Rattle.places.proofs.Below.{length_below, list_same, list_front}
use Rattle.refusal.specs.Answers.{Checked, Valid, written}
use Rattle.refusal.specs.Bounds.{start_of, end_of}
use Rattle.refusal.proofs.Spans.{Part}
use Rattle.sparse.specs.Vectors.{Vector, size, at}
use Rattle.sparse.specs.Calls.{Leaves}
use Rattle.sparse.specs.Sound.{Split, Sound}
use Rattle.sparse.proofs.Entries.{as_many}
use Rattle.sparse.proofs.Slices.{in_order, Run, run}
use Rattle.sparse.proofs.Writes.{done}
use Rattle.sparse_slices.specs.Calls.{slice}
use Rattle.sparse_slices.specs.Loops.{Above}

-- a part of a list is what stands at its places
module _ {A : Type 0} (l : List A) where
  part_length : (p n : ℕ) → p + n ≤ length l → length (take n (drop p l)) ≡ n
  part_length p n h = length-take-le n (drop p l) (rw length-drop (omega arith))

  part_at : (z : A) (p n : ℕ) → p + n ≤ length l → (i : ℕ) → i < n → get_or (take n (drop p l)) i z ≡ get_or l (p + i) z
  part_at z p n h i g = get_or-take n (drop p l) i z g ∙ get_or-drop p l i z

  part_list : (z : A) (p n : ℕ) → p + n ≤ length l → list_below (λ i. get_or l (p + i) z) n ≡ take n (drop p l)
  part_list z p n h =
      list_same (λ i. get_or l (p + i) z) (λ i. get_or (drop p l) i z) n (λ i g. sym (get_or-drop p l i z))
      ∙ list_front (drop p l) z n (rw length-drop (omega arith))

-- the bounds name the places from `start` to `end`, and the entries p to q stand there
module _ (v : Vector) (s : Sound v) {from to : Bound ℕ} {start end p q : ℕ} (b : Part from to v.dims start end)
    (low : Split v.indexes p start) (high : Split v.indexes q end) where
  pub fits : p ≤ q
  fits = in_order low high (omega (arith, b.rising))

  abbrev indexes : List ℕ
  indexes = take (q - p) (drop p v.indexes)

  inside : p + (q - p) ≤ size v
  inside = omega (arith, fits, high.within)

  count : length indexes ≡ q - p
  count = part_length v.indexes p (q - p) inside

  pub above : Above indexes start
  above j h =
      let g : j < q - p = rw count at h in
      rw (part_at v.indexes 0 p (q - p) inside j g) (low.high (p + j) (omega arith) (omega (arith, inside)))

  slices : Run v.indexes v.values p start (end - start) (q - p)
  slices = run v.indexes v.values s.even s.rising low high (omega (arith, b.rising))

  long : size (slice v start end) ≡ q - p
  long = ap length slices.indexes ∙ length_below _ (q - p)

  pub slice_size : size (slice v (start_of from) (end_of v.dims to)) ≡ q - p
  slice_size = rw (← b.starts, ← b.ends) long

  moved : list_below (λ j. get_or indexes j 0 - start) (length indexes) ≡ (slice v start end).indexes
  moved =
      rw count (list_same (λ j. get_or indexes j 0 - start) (λ j. get_or v.indexes (p + j) 0 - start) (q - p)
      (λ j g. ap (λ (i : ℕ). i - start) (part_at v.indexes 0 p (q - p) inside j g)))
      ∙ sym slices.indexes

  copied : take (q - p) (drop p v.values) ≡ (slice v start end).values
  copied = sym (part_list v.values nan p (q - p) (omega (arith, inside, s.even))) ∙ sym slices.values

  pub slice_written : {due : Checked} {oi : List ℕ} {ov : List Float} {oi' : List ℕ} {copy : List Float} → due ≡ Valid
      → oi' ≡ list_below (λ j. get_or indexes j 0 - start) (length indexes) ++ drop (length indexes) oi
      → copy ≡ take (q - p) (drop p v.values)
      → Leaves due (slice v (start_of from) (end_of v.dims to)) oi ov (Ok (written (end - start) (q - p))) oi' (copy ++ drop (q - p) ov)
  slice_written {oi = oi} {ov} passed is vs =
      rw (← b.starts, ← b.ends)
      (done (slice v start end) passed (sym long) (as_many (λ k. at v (start + k)) (end - start))
      (is ∙ ap₂ (λ (l : List ℕ) (n : ℕ). l ++ drop n oi) moved count)
      (ap (λ (l : List Float). l ++ drop (q - p) ov) (vs ∙ copied)))
