-- What a check answers, and what is known of a vector that passed. Assumes nothing.
use Rattle.std.proofs.Common.{◌≡◌, ℕ, zero, suc, ◌+◌, ◌-◌, ◌<◌, ◌≤◌, true, false, not, Err, eqb, leb, List, length, get_or, sym, ◌∙◌, ⊎_elim, true≢false, zero-le, le_of_suc-le-suc, eq-or-lt_of_le, arith, le-ltb, lt-ltb, eq-eqb, ne_eqb, eqb-true, leb-false}
use borrow.Author.Tests.{lt-leb, not-false}
use Rattle.places.specs.Below.{any_below}
use Rattle.places.specs.Search.{first_from}
use Rattle.places.proofs.Below.{le_or_lt, any_false, any_none}
use Rattle.refusal.specs.Answers.{Valid}
use Rattle.refusal.specs.declared.Refusal.TheVariants.{Dims, Length, Order, Index, Zero}
use Rattle.refusal.proofs.Chains.{next_valid, refuse_valid, differ_valid}
use Rattle.refusal.proofs.Dims.{in_range, range_in}
use Rattle.sparse.specs.Vectors.{Vector, vector, size}
use Rattle.sparse.specs.Calls.{bad_dims, falls, too_high, zero_at, checked_of, each_of, pair_of}
use Rattle.sparse.specs.Sound.{Rising, Split, Sound}
use Rattle.sparse.proofs.Falls.{rises, falls_at, first_rises}
use Rattle.sparse.proofs.Look.{split_start}

-- an index that is too high is there
pub high_some : (d : ℕ) (is : List ℕ) → too_high d is ≡ true → 1 ≤ length is
high_some d is e =
    ⊎_elim (λ h. let f : false ≡ true = rw (le-ltb 0 (length is) h) at e in absurd (true≢false (sym f))) (λ h. h) (le_or_lt (length is) 0)

-- ---- what is refused, test by test
module _ (v : Vector) where
  pub refused_dims : bad_dims v.dims ≡ true → checked_of v ≡ Err Dims
  unfolding checked_of
  refused_dims bad = rw bad

  module _ (l : 1 ≤ v.dims) (h : v.dims ≤ 1048575) where
    pub refused_length : (size v ≡ length v.values → ⊥) → checked_of v ≡ Err Length
    unfolding checked_of
    refused_length other = rw (in_range 1048575 v.dims l h, ne_eqb (size v) (length v.values) other)

    module _ (even : size v ≡ length v.values) where
      pub refused_order : any_below (falls v.indexes) (size v) ≡ true → checked_of v ≡ Err (Order (first_from (falls v.indexes) (size v) 0))
      unfolding checked_of
      refused_order some = rw (in_range 1048575 v.dims l h, eq-eqb (size v) (length v.values) even, some)

      module _ (up : any_below (falls v.indexes) (size v) ≡ false) where
        pub refused_index : too_high v.dims v.indexes ≡ true → checked_of v ≡ Err (Index (size v - 1))
        unfolding checked_of
        refused_index high =
            rw (in_range 1048575 v.dims l h, eq-eqb (size v) (length v.values) even, up, high)

        module _ (low : too_high v.dims v.indexes ≡ false) where
          pub refused_zero : any_below (zero_at v.values) (length v.values) ≡ true
              → checked_of v ≡ Err (Zero (first_from (zero_at v.values) (length v.values) 0))
          unfolding checked_of
          refused_zero some =
              rw (
                in_range 1048575 v.dims l h,
                eq-eqb (size v) (length v.values) even,
                up,
                low,
                some,
              )

          pub passes : any_below (zero_at v.values) (length v.values) ≡ false → checked_of v ≡ Valid
          unfolding checked_of
          passes none =
              rw (
                in_range 1048575 v.dims l h,
                eq-eqb (size v) (length v.values) even,
                up,
                low,
                none,
              )

-- ---- a vector that passed, and back

-- indexes that rise from each entry to the next
steps_rise : (is : List ℕ) → ((j : ℕ) → j < length is → falls is j ≡ false) → Rising is
steps_rise is all i zero h l = absurd (omega arith)
steps_rise is all i (suc j) h l =
    let e = sym (falls_at is (suc j) (omega arith)) ∙ all (suc j) l in
    let before : suc j - 1 ≡ j = omega arith in
    let up : get_or is j 0 < get_or is (suc j) 0 = rw before at (leb-false (get_or is (suc j) 0) (get_or is (suc j - 1) 0) e) in
    ⊎_elim
    (λ same. rw same up)
    (λ less. omega (arith, steps_rise is all i j less (omega arith)))
    (eq-or-lt_of_le (le_of_suc-le-suc h))

rise_steps : (is : List ℕ) → Rising is → (j : ℕ) → j < length is → falls is j ≡ false
rise_steps is up zero l = first_rises is zero (omega arith)
rise_steps is up (suc j) l = rises is (suc j) (omega arith) (up (suc j - 1) (suc j) (omega arith) l)

-- the last index is below d, and so are all
all_below : (d : ℕ) (is : List ℕ) → Rising is → too_high d is ≡ false → (j : ℕ) → j < length is → get_or is j 0 < d
all_below d is up low j l =
    let e : leb d (get_or is (length is - 1) 0) ≡ false = rw (lt-ltb 0 (length is) (omega arith)) at low in
    let last : get_or is (length is - 1) 0 < d = leb-false d (get_or is (length is - 1) 0) e in
    let at_most : j ≤ length is - 1 = omega arith in
    ⊎_elim
    (λ same. rw same last)
    (λ less. omega (arith, up j (length is - 1) less (omega arith)))
    (eq-or-lt_of_le at_most)

below_all : (d : ℕ) (is : List ℕ) → ((j : ℕ) → j < length is → get_or is j 0 < d) → too_high d is ≡ false
below_all d is all =
    ⊎_elim
    (λ h. rw (le-ltb 0 (length is) h))
    (λ h. rw (lt-ltb 0 (length is) h, lt-leb d (get_or is (length is - 1) 0) (all (length is - 1) (omega arith))))
    (le_or_lt (length is) 0)

pub sound : (v : Vector) → checked_of v ≡ Valid → Sound v
unfolding checked_of
sound v passed =
    let a = refuse_valid (bad_dims v.dims) Dims _ passed in
    let b = refuse_valid (not (eqb (size v) (length v.values))) Length _ a.1 in
    let c = refuse_valid (any_below (falls v.indexes) (size v)) _ _ b.1 in
    let d = refuse_valid (too_high v.dims v.indexes) _ _ c.1 in
    let e = refuse_valid (any_below (zero_at v.values) (length v.values)) _ _ d.1 in
    let up = steps_rise v.indexes (λ j l. any_false (falls v.indexes) (size v) j c.0 l) in
    let even = eqb-true (size v) (length v.values) (not-false (eqb (size v) (length v.values)) b.0) in
    record {
      low = (range_in 1048575 v.dims a.0).0;
      high = (range_in 1048575 v.dims a.0).1;
      even = even;
      rising = up;
      below = all_below v.dims v.indexes up d.0;
      nonzero = λ j l. any_false (zero_at v.values) (length v.values) j e.0 (omega arith);
    }

pub valid : (v : Vector) → Sound v → checked_of v ≡ Valid
unfolding checked_of
valid v s =
    rw (
      in_range 1048575 v.dims s.low s.high,
      eq-eqb (size v) (length v.values) s.even,
      any_none (falls v.indexes) (size v) (rise_steps v.indexes s.rising),
      below_all v.dims v.indexes s.below,
      any_none (zero_at v.values) (length v.values) (λ j l. s.nonzero j (omega (arith, s.even))),
    )

-- ---- how many entries there are

-- indexes rise, so that the i-th entry after one whose place is not below k is not below k + i
index_least : {v : Vector} → Sound v → {p k : ℕ} → Split v.indexes p k → (i : ℕ) → p + i < size v → k + i ≤ get_or v.indexes (p + i) 0
index_least s {p} cut zero h = let e : p + 0 ≡ p = omega arith in rw e (omega (arith, cut.high p (omega arith) (omega arith)))
index_least s {p} cut (suc i) h = omega (arith, index_least s cut i (omega arith), s.rising (p + i) (p + suc i) (omega arith) h)

-- from a place on there are no more entries than places
pub left_most : {v : Vector} → Sound v → {p k : ℕ} → Split v.indexes p k → k ≤ v.dims → k + size v ≤ v.dims + p
left_most {v} s {p} cut le =
    ⊎_elim
    (λ h. omega (arith, cut.within))
    (λ h.
    let e : p + (size v - 1 - p) ≡ size v - 1 = omega arith in
    let last = index_least s cut (size v - 1 - p) (omega arith) in
    omega (arith, rw e at last, s.below (size v - 1) (omega arith)))
    (le_or_lt (size v) p)

pub size_most : {v : Vector} → Sound v → size v ≤ v.dims
size_most {v} s = omega (arith, left_most s (split_start v.indexes) zero-le)

-- ---- two vectors

pub sizes_most : {a b : Vector} → Sound a → Sound b → size a + size b ≤ 2097150
sizes_most sa sb = omega (arith, size_most sa, size_most sb, sa.high, sb.high)

pub each_sound : (a b : Vector) → each_of a b ≡ Valid → Sound a × Sound b
each_sound a b passed = let v = next_valid (checked_of a) (checked_of b) passed in (sound a v.0, sound b v.1)

-- the right vector has the left one's dims
same_dims : (a b : Vector) → a.dims ≡ b.dims → Sound b → Sound (vector a.dims b.indexes b.values)
same_dims a b e s = record {
  low = omega (arith, e, s.low);
  high = omega (arith, e, s.high);
  even = s.even;
  rising = s.rising;
  below = λ j h. omega (arith, e, s.below j h);
  nonzero = s.nonzero;
}

pub pair_sound : (a b : Vector) → pair_of a b ≡ Valid → Sound a × Sound (vector a.dims b.indexes b.values)
pair_sound a b passed =
    let v = differ_valid (each_of a b) a.dims b.dims passed in
    let s = each_sound a b v.0 in
    (s.0, same_dims a b v.1 s.1)
