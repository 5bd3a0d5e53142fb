-- The average of a vector: a walk over its entries and none of another vector writes it, it passes its check, and it holds at each place the
-- quotient of what stood there. Assumes nothing.
use Prim.Native.Nat.{ℕ, suc, ◌+◌, ◌-◌, ◌≤◌, ◌<◌}
use native.Mathlib.Omega.{arith}
use mathlib.Core.Bool.{true, false}
use mathlib.Core.List.{List, [], ◌∷◌, ◌++◌, append_assoc}
use mathlib.Core.Path.{◌≡◌, refl, sym, ap, ◌∙◌}
use lib.ListN.{length, get_or, set, take, drop}
use lib.Seq.{drop-cons, drop-drop, paste, paste-zero, paste-suc}
use lib.IntN.{pos}
use lib.Ieee.{Float, binary32, of_int, div, nan}
use Rattle.refusal.specs.Answers.{Valid}
use Rattle.sparse.specs.Cells.{is_zero, keep}
use Rattle.sparse.specs.Vectors.{Vector, vector, size, at}
use Rattle.sparse.specs.Calls.{checked_of}
use Rattle.sparse.specs.Sound.{Sound}
use Rattle.sparse.specs.declared.Cell.{Cell}
use Rattle.sparse.specs.declared.Cell.TheVariants.{Empty, Full}
use Rattle.sparse.proofs.Entries.{as_many}
use Rattle.sparse.proofs.Meaning.{keep_nonzero, at_below, vector_valid}
use Rattle.walks.specs.Walk.{Turned, Put}
use Rattle.walks.proofs.Stores.{put_most, Written, written_none, written_empty, written_lengths, written_more}
use Rattle.walks.proofs.Turns.{to_left}
use Rattle.walks.proofs.Walks.{Quiet, Going, going_start, going_more, going_end, left_cell, place_below}
use Rattle.averages.specs.Averages.{over, shared}
use Rattle.averages.specs.Loops.{NoneZero, Divides, Divided}

-- what the average holds at the place k
abbrev pub over_at : ℕ → Vector → ℕ → Cell
over_at count v k = over count (at v k)

-- ---- what the average means

over_nonzero : (count : ℕ) (x : Cell) (w : Float) → over count x ≡ Full w → is_zero w ≡ false
over_nonzero count Empty w e = absurd cc
over_nonzero count (Full v) w e = keep_nonzero (div binary32 v (of_int binary32 (pos count))) w e

module _ (count : ℕ) (v : Vector) where
  pub shared_at : (k : ℕ) → k < v.dims → at (shared count v) k ≡ over count (at v k)
  shared_at k h = at_below (over_at count v) v.dims k h

  pub shared_many : length (shared count v).values ≡ size (shared count v)
  shared_many = as_many (over_at count v) v.dims

  pub shared_valid : Sound v → checked_of (shared count v) ≡ Valid
  shared_valid s = vector_valid v.dims (over_at count v) s.low s.high (λ k w h. over_nonzero count (at v k) w)

-- ---- the walk

-- a vector without entries
abbrev nothing : ℕ → Vector
nothing d = vector d [] []

nothing_sound : {v : Vector} → Sound v → Sound (nothing v.dims)
nothing_sound s = record {
  low = s.low;
  high = s.high;
  even = refl;
  rising = λ i j h l. absurd (omega arith);
  below = λ j h. absurd (omega arith);
  nonzero = λ j h. absurd (omega arith);
}

-- p entries are passed, and no more than p are written: those of the places below the walk
pub record Dividing (count : ℕ) (v : Vector) (oi : List ℕ) (ov : List Float) (oi' : List ℕ) (ov' : List Float) (p n : ℕ) : Type 0 where
  pub few : n ≤ p
  pub going : Going v (nothing v.dims) v.dims (Written (over_at count v) oi ov oi' ov' n) p 0

pub dividing_start : {count : ℕ} {v : Vector} {oi : List ℕ} {ov : List Float} → Dividing count v oi ov oi ov 0 0
dividing_start = record { few = omega arith; going = going_start written_none }

module _ {count : ℕ} {v : Vector} {oi : List ℕ} {ov : List Float} (r : Divides v oi ov)
    {oi' : List ℕ} {ov' : List Float} {p n : ℕ} (d : Dividing count v oi ov oi' ov' p n) where
  quiet : Quiet v (nothing v.dims) (Written (over_at count v) oi ov oi' ov' n)
  quiet i ev eb w = written_empty w (ap (over count) ev)

  pub dividing_lengths : (length oi' ≡ length oi) × (length ov' ≡ length ov)
  dividing_lengths =
      let h = d.going.walk.left.within in
      written_lengths d.going.holds (omega (arith, d.few, r.room)) (omega (arith, d.few, r.room'))

  -- one entry more
  pub dividing_more : p < size v → {z : Cell} {n' : ℕ} {oi'' : List ℕ} {ov'' : List Float}
      → z ≡ keep (div binary32 (get_or v.values p nan) (of_int binary32 (pos count)))
      → Put z (get_or v.indexes p 0) n oi' ov' n' oi'' ov'' → Dividing count v oi ov oi'' ov'' (p + 1) n'
  dividing_more h {z} e put =
      let s = r.sound in
      let b = nothing_sound s in
      let t : Turned v.indexes v.values p [] [] 0 _ = to_left h (λ l. absurd (omega arith)) in
      record {
        few = omega (arith, d.few, put.count, put_most z n);
        going = going_more s b d.going t quiet (place_below s b d.going t refl)
            (λ w.
            written_more w (omega (arith, d.few, r.room)) (omega (arith, d.few, r.room'))
            (e ∙ sym (ap (over count) (left_cell s b d.going t)))
            put);
      }

  pub dividing_done : size v ≤ p → Divided (shared count v) oi ov n oi' ov'
  dividing_done h =
      let w = going_end r.sound (nothing_sound r.sound) d.going quiet (omega arith) in
      record { count = sym w.count; indexes = w.indexes; values = w.values }

-- ---- four entries at once

module _ {ℓ} {A : Type ℓ} where
  -- the four elements from p on
  part_four : (p : ℕ) (l : List A) (z : A) → p + 4 ≤ length l
      → take 4 (drop p l) ≡ get_or l p z ∷ get_or l (p + 1) z ∷ get_or l (p + 2) z ∷ get_or l (p + 3) z ∷ []
  part_four p l z h =
      let a = drop-cons l p z (omega arith) in
      let b = drop-cons l (suc p) z (omega arith) in
      let c = drop-cons l (suc (suc p)) z (omega arith) in
      let d = drop-cons l (suc (suc (suc p))) z (omega arith) in
      let i : p + 1 ≡ suc p = omega arith in
      let j : p + 2 ≡ suc (suc p) = omega arith in
      let k : p + 3 ≡ suc (suc (suc p)) = omega arith in
      rw (a, b, c, d, i, j, k)

  -- a list whose four places from n on were lent, and that came back with a, b, c and d, is as after four stores
  lent_four : (n : ℕ) (l : List A) (a b c d : A) → n + 4 ≤ length l
      → take n l ++ ((a ∷ b ∷ c ∷ d ∷ []) ++ drop 4 (drop n l)) ≡ set (set (set (set l n a) (n + 1) b) (n + 2) c) (n + 3) d
  lent_four n l a b c d h =
      let s = a ∷ b ∷ c ∷ d ∷ [] in
      let i : n + 0 ≡ n = omega arith in
      let zero : set l n a ≡ paste l n s 1 =
      ap (λ (x : List A). set x n a) (paste-zero l n s) ∙ ap (λ (k : ℕ). set (paste l n s 0) k a) (sym i)
      ∙ paste-suc l n s 0 a (omega arith) (omega arith)
      in
      sym
      (ap (λ (x : List A). set (set (set x (n + 1) b) (n + 2) c) (n + 3) d) zero
      ∙ ap (λ (x : List A). set (set x (n + 2) c) (n + 3) d) (paste-suc l n s 1 a (omega arith) (omega arith))
      ∙ ap (λ (x : List A). set x (n + 3) d) (paste-suc l n s 2 a (omega arith) (omega arith))
      ∙ paste-suc l n s 3 a (omega arith) (omega arith)
      ∙ append_assoc (take n l) s (drop (n + 4) l)
      ∙ ap (λ (x : List A). take n l ++ (s ++ x)) (sym (drop-drop 4 n l)))

-- the value of the entry p, divided by a count
abbrev quotient : ℕ → Vector → ℕ → Float
quotient count v p = div binary32 (get_or v.values p nan) (of_int binary32 (pos count))

module _ {count : ℕ} {v : Vector} {oi : List ℕ} {ov : List Float} (r : Divides v oi ov) where
  -- one entry more that is not zero
  one_more : {oi' : List ℕ} {ov' : List Float} {p n : ℕ} → Dividing count v oi ov oi' ov' p n → p < size v → is_zero (quotient count v p) ≡ false
      → (p' n' : ℕ) → p' ≡ p + 1 → n' ≡ n + 1
      → Dividing count v oi ov (set oi' n (get_or v.indexes p 0)) (set ov' n (quotient count v p)) p' n'
  one_more {p = p} d h z p' n' e f =
      rw (e, f) (dividing_more r d h {z = Full (quotient count v p)} (rw z) (record { count = refl; indexes = refl; values = refl }))

  -- and four, of which both lists are lent places for, from n up to its end
  pub dividing_four : {oi' : List ℕ} {ov' : List Float} {p n : ℕ} → Dividing count v oi ov oi' ov' p n → p + 4 ≤ size v
      → NoneZero (quotient count v p) (quotient count v (p + 1)) (quotient count v (p + 2)) (quotient count v (p + 3)) true
      → {is : List ℕ} {vs : List Float} → is ≡ take (p + 4 - p) (drop p v.indexes)
      → vs ≡ quotient count v p ∷ quotient count v (p + 1) ∷ quotient count v (p + 2) ∷ quotient count v (p + 3) ∷ []
      → Dividing count v oi ov (take n oi' ++ (is ++ drop (n + 4 - n) (drop n oi'))) (take n ov' ++ (vs ++ drop (n + 4 - n) (drop n ov')))
      (p + 4) (n + 4)
  dividing_four {oi'} {ov'} {p} {n} d h none {is} {vs} e f =
      let z = none refl in
      let d1 = one_more d (omega arith) z.0 (p + 1) (n + 1) refl refl in
      let d2 = one_more d1 (omega arith) z.1 (p + 2) (n + 2) (omega arith) (omega arith) in
      let d3 = one_more d2 (omega arith) z.2 (p + 3) (n + 3) (omega arith) (omega arith) in
      let long = dividing_lengths r d in
      let most = d.going.walk.left.within in
      let k : p + 4 - p ≡ 4 = omega arith in
      let j : n + 4 - n ≡ 4 = omega arith in
      let four : is ≡ get_or v.indexes p 0 ∷ get_or v.indexes (p + 1) 0 ∷ get_or v.indexes (p + 2) 0 ∷ get_or v.indexes (p + 3) 0 ∷ [] =
      rw k at e ∙ part_four p v.indexes 0 h
      in
      rw (
        j,
        four,
        f,
        lent_four n oi' _ _ _ _ (omega (arith, d.few, r.room, long.0)),
        lent_four n ov' _ _ _ _ (omega (arith, d.few, r.room', long.1)),
      )
      (one_more d3 (omega arith) z.3 (p + 4) (n + 4) (omega arith) (omega arith))
