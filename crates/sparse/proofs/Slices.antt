-- The entries of a slice: those between the places where the indexes are split. Assumes nothing.
use Rattle.std.proofs.Common.{◌≡◌, ℕ, zero, suc, ◌+◌, ◌-◌, ◌<◌, ◌≤◌, List, length, get_or, take, sym, refl, ◌∙◌, ap₂, ⊎_elim, add-zero, eq-or-lt_of_le, zero-add, arith, take_all}
use native.Mathlib.Nat.{sub-zero}
use lib.Ieee.{Float, nan}
use Rattle.places.specs.Below.{list_below}
use Rattle.places.proofs.Below.{le_or_lt, list_front}
use Rattle.sparse.specs.Cells.{look, indexes_below, values_below}
use Rattle.sparse.specs.Vectors.{Vector, vector, size, at, vector_of}
use Rattle.sparse.specs.Sound.{Rising, Split, Sound}
use Rattle.sparse.proofs.Entries.{indexes_empty, values_empty}
use Rattle.sparse.proofs.Look.{look_gap, look_met, split_on, split_met, split_start}

-- a later place is not split before
pub in_order : {is : List ℕ} {s e start end : ℕ} → Split is s start → Split is e end → start ≤ end → s ≤ e
in_order {is} {s} {e} from to le =
    ⊎_elim (λ h. h) (λ h. absurd (omega (arith, from.low e h, to.high e (omega arith) (omega (arith, from.within))))) (le_or_lt s e)

-- what stands at the n places from `start` on is the m entries from s on
pub record Run (is : List ℕ) (vs : List Float) (s start n m : ℕ) : Type 0 where
  pub split : Split is (s + m) (start + n)
  pub indexes : indexes_below (λ k. look is vs (start + k)) n ≡ list_below (λ j. get_or is (s + j) 0 - start) m
  pub values : values_below (λ k. look is vs (start + k)) n ≡ list_below (λ j. get_or vs (s + j) nan) m

module _ (is : List ℕ) (vs : List Float) (even : length is ≡ length vs) (up : Rising is) {s start : ℕ} (from : Split is s start) where
  -- one place more: the next entry stands there, or it is empty
  on : (n m : ℕ) → Run is vs s start n m → (x : ℕ) × Run is vs s start (suc n) x
  unfolding indexes_below values_below list_below
  on n m r =
      ⊎_elim
      (λ h. empty (λ l. absurd (omega arith)))
      (λ h. ⊎_elim (λ hit. full h (sym hit)) (λ less. empty (λ l. less)) (eq-or-lt_of_le (r.split.high (s + m) (omega arith) h)))
      (le_or_lt (length is) (s + m))
    where
      k : start + suc n ≡ suc (start + n)
      k = omega arith

      empty : (s + m < length is → start + n < get_or is (s + m) 0) → (x : ℕ) × Run is vs s start (suc n) x
      empty first =
          let e = look_gap is vs up (s + m) (start + n) r.split (suc (start + n)) (omega arith) first (start + n) (omega arith) (omega arith) in (
            m,
            record {
              split = rw k (split_on is vs up (s + m) (start + n) r.split (suc (start + n)) (omega arith) first);
              indexes = indexes_empty (λ j. look is vs (start + j)) n e ∙ r.indexes;
              values = values_empty (λ j. look is vs (start + j)) n e ∙ r.values;
            },
          )

      full : s + m < length is → get_or is (s + m) 0 ≡ start + n → (x : ℕ) × Run is vs s start (suc n) x
      full h hit =
          let e = look_met is vs up (s + m) (start + n) r.split even h (start + n) hit in
          let i : n ≡ get_or is (s + m) 0 - start = omega arith in
          let p : s + suc m ≡ s + m + 1 = omega arith in (
            suc m,
            record {
              split = rw (k, p) (split_met is vs up (s + m) (start + n) r.split even h (start + n) hit);
              indexes = rw (e, r.indexes, ← i);
              values = rw (e, r.values);
            },
          )

  all : (n : ℕ) → (m : ℕ) × Run is vs s start n m
  unfolding indexes_below values_below list_below
  all zero = (0, record { split = simp add-zero from; indexes = refl; values = refl })
  all (suc n) = let r = all n in on n r.0 r.1

  pub run : {e end : ℕ} → Split is e end → start ≤ end → Run is vs s start (end - start) (e - s)
  run {e} {end} to le =
      let r = all (end - start) in
      let k : start + (end - start) ≡ end = omega arith in
      let t : Split is (s + r.0) end = rw k at r.1.split in
      let m : r.0 ≡ e - s = omega (arith, in_order t to (omega arith), in_order to t (omega arith), in_order from to le) in
      rw (← m) r.1

-- what stands at the places below a split are the entries before it
pub front : (v : Vector) → Sound v → {e end : ℕ} → Split v.indexes e end
    → (indexes_below (at v) end ≡ take e v.indexes) × (values_below (at v) end ≡ take e v.values)
front v s {e} {end} to =
    let all = run v.indexes v.values s.even s.rising (split_start v.indexes) to (omega arith) in
    let is : indexes_below (at v) end ≡ list_below (λ j. get_or v.indexes j 0) e = simp (zero-add, sub-zero) at all.indexes in
    let vs : values_below (at v) end ≡ list_below (λ j. get_or v.values j nan) e = simp (zero-add, sub-zero) at all.values in
    (is ∙ list_front v.indexes 0 e to.within, vs ∙ list_front v.values nan e (omega (arith, to.within, s.even)))

-- a vector is rebuilt from what stands at its places
pub rebuilt : (v : Vector) → Sound v → v ≡ vector_of v.dims (at v)
rebuilt v s =
    let end : Split v.indexes (size v) v.dims = record { within = omega arith; low = s.below; high = λ j h l. absurd (omega arith) } in
    let all = front v s end in
    let e = s.even in
    let is = all.0 ∙ take_all (size v) v.indexes (omega arith) in
    let vs = all.1 ∙ take_all (size v) v.values (omega arith) in
    sym (ap₂ (vector v.dims) is vs)
