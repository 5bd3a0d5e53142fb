-- What a vector made of its places means: it holds at each place what it was made from, and it is valid where no place holds a zero.
-- Assumes nothing.
use Rattle.std.proofs.Common.{◌≡◌, ℕ, zero, suc, ◌<◌, ◌≤◌, Bool, true, false, cond, eqb, ◌⊎◌, List, [], ◌∷◌, ◌++◌, length, get_or, sym, refl, ◌∙◌, inl, inr, ⊎_elim, append-nil, eq-or-lt_of_le, arith, length-append, eq-eqb, ne_eqb}
use lib.ListN.{get_or-append}
use lib.Seq.{get_or-append_seam}
use lib.Ieee.{Float, nan}
use Rattle.places.proofs.Below.{le_or_lt}
use Rattle.refusal.specs.Answers.{Valid}
use Rattle.sparse.specs.Calls.{zero_at, checked_of}
use Rattle.sparse.specs.Cells.{is_zero, keep, look, index_of, value_of, indexes_below, values_below}
use Rattle.sparse.specs.Vectors.{Vector, at, vector_of}
use Rattle.sparse.specs.Sound.{Rising, Sound}
use Rattle.sparse.specs.declared.Cell.{Cell}
use Rattle.sparse.specs.declared.Cell.TheVariants.{Empty, Full}
use Rattle.sparse.proofs.Checks.{valid}
use Rattle.sparse.proofs.Entries.{as_many}
use Rattle.sparse.proofs.Look.{look_none}

-- what is kept is no zero
pub keep_nonzero : (w v : Float) → keep w ≡ Full v → is_zero v ≡ false
keep_nonzero w v e = go (is_zero w) refl e
  where
    go : (b : Bool) → is_zero w ≡ b → cond b Empty (Full w) ≡ Full v → is_zero v ≡ false
    go true h q = let r : ◌≡◌ {A = ℕ} 0 1 = cc in absurd (omega arith)
    go false h q = let r : w ≡ v = cc in rw (← r) h

-- an index of xs and of what stands at n is one of xs, or n itself at the end
last_or : (n j : ℕ) (z : Cell) (xs : List ℕ) → j < length (xs ++ index_of z n)
    → (j < length xs) ⊎ ((j ≡ length xs) × (get_or (xs ++ index_of z n) j 0 ≡ n))
last_or n j Empty xs h = inl (rw append-nil at h)
last_or n j (Full v) xs h =
    let l = rw length-append at h in
    ⊎_elim (λ g. let e : j ≡ length xs = omega arith in inr (e, rw (e, get_or-append_seam))) inl (le_or_lt (length xs) j)

-- ---- the indexes
module _ (f : ℕ → Cell) where
  before : (n j : ℕ) → j < length (indexes_below f n) → get_or (indexes_below f n ++ index_of (f n) n) j 0 ≡ get_or (indexes_below f n) j 0
  before n j h = get_or-append (indexes_below f n) (index_of (f n) n) 0 j h

  pub inside : (n j : ℕ) → j < length (indexes_below f n) → get_or (indexes_below f n) j 0 < n
  unfolding indexes_below
  inside zero j h = absurd (omega arith)
  inside (suc n) j h =
      ⊎_elim
      (λ g. rw (before n j g) (omega (arith, inside n j g)))
      (λ g. omega (arith, g.1))
      (last_or n j (f n) (indexes_below f n) h)

  pub rising : (n : ℕ) → Rising (indexes_below f n)
  unfolding indexes_below
  rising zero i j h l = absurd (omega arith)
  rising (suc n) i j h l =
      ⊎_elim
      (λ g.
      let k : i < length (indexes_below f n) = omega arith in
      rw (before n i k, before n j g) (rising n i j h g))
      (λ g.
      let k : i < length (indexes_below f n) = omega (arith, g.0) in
      rw (before n i k, g.1) (inside n i k))
      (last_or n j (f n) (indexes_below f n) l)

-- ---- what stands at a place

-- the first of two cells that is full
first : Cell → Cell → Cell
first Empty y = y
first (Full v) y = Full v

first_empty : (x : Cell) → first x Empty ≡ x
unfolding first
first_empty Empty = refl
first_empty (Full v) = refl

look_append : (is : List ℕ) (vs : List Float) (js : List ℕ) (ws : List Float) (k : ℕ) → length is ≡ length vs
    → look (is ++ js) (vs ++ ws) k ≡ first (look is vs k) (look js ws k)
unfolding look first
look_append [] [] js ws k e = refl
look_append [] (v ∷ vs) js ws k e = absurd (omega arith)
look_append (i ∷ is) [] js ws k e = absurd (omega arith)
look_append (i ∷ is) (v ∷ vs) js ws k e = go (eqb i k) (look_append is vs js ws k (omega arith))
  where
    go : (b : Bool) → look (is ++ js) (vs ++ ws) k ≡ first (look is vs k) (look js ws k)
        → cond b (Full v) (look (is ++ js) (vs ++ ws) k) ≡ first (cond b (Full v) (look is vs k)) (look js ws k)
    go true h = refl
    go false h = h

one_other : (z : Cell) (n k : ℕ) → k < n → look (index_of z n) (value_of z) k ≡ Empty
unfolding look
one_other Empty n k h = refl
one_other (Full v) n k h = rw (ne_eqb n k (λ e. omega arith))

one_same : (z : Cell) (n : ℕ) → look (index_of z n) (value_of z) n ≡ z
unfolding look
one_same Empty n = refl
one_same (Full v) n = rw (eq-eqb n n refl)

pub at_below : (f : ℕ → Cell) (d k : ℕ) → k < d → at (vector_of d f) k ≡ f k
unfolding indexes_below values_below first
at_below f zero k h = absurd (omega arith)
at_below f (suc n) k h =
    look_append (indexes_below f n) (values_below f n) (index_of (f n) n) (value_of (f n)) k (sym (as_many f n))
    ∙ ⊎_elim
    (λ e.
    let q : k ≡ n = omega arith in
    rw (q, look_none (indexes_below f n) (values_below f n) n (λ j l r. omega (arith, inside f n j l)), one_same))
    (λ g. rw (one_other (f n) n k (omega arith), at_below f n k (omega arith)) (first_empty (f k)))
    (eq-or-lt_of_le h)

-- ---- no zeros, and so valid

zero_none : (f : ℕ → Cell) (n : ℕ) → ((k : ℕ) (v : Float) → k < n → f k ≡ Full v → is_zero v ≡ false)
    → (j : ℕ) → j < length (values_below f n) → zero_at (values_below f n) j ≡ false
unfolding values_below
zero_none f zero no_zero j h = absurd (omega arith)
zero_none f (suc n) no_zero j h = go (f n) refl h (zero_none f n (λ k v l. no_zero k v (omega arith)) j)
  where
    go : (z : Cell) → f n ≡ z → j < length (values_below f n ++ value_of z) → (j < length (values_below f n) → zero_at (values_below f n) j ≡ false)
        → zero_at (values_below f n ++ value_of z) j ≡ false
    go Empty e l rest = let m = rw append-nil at l in rw append-nil (rest m)
    go (Full v) e l rest =
        let m = rw length-append at l in
        ⊎_elim
        (λ g. let q : j ≡ length (values_below f n) = omega arith in rw (q, get_or-append_seam) (no_zero n v (omega arith) e))
        (λ g. rw (get_or-append (values_below f n) (v ∷ []) nan j g) (rest g))
        (le_or_lt (length (values_below f n)) j)

module _ (d : ℕ) (f : ℕ → Cell) (low : 1 ≤ d) (high : d ≤ 1048575) (no_zero : (k : ℕ) (v : Float) → k < d → f k ≡ Full v → is_zero v ≡ false) where
  pub vector_sound : Sound (vector_of d f)
  vector_sound = record {
    low = low;
    high = high;
    even = sym (as_many f d);
    rising = rising f d;
    below = inside f d;
    nonzero = λ j l. zero_none f d no_zero j (omega (arith, as_many f d));
  }

  pub vector_valid : checked_of (vector_of d f) ≡ Valid
  vector_valid = valid (vector_of d f) vector_sound

-- what a vector without zeros holds is no zero
look_nonzero : (is : List ℕ) (vs : List Float) → ((j : ℕ) → j < length is → zero_at vs j ≡ false)
    → (k : ℕ) (x : Float) → look is vs k ≡ Full x → is_zero x ≡ false
unfolding look
look_nonzero [] vs z k x e = let q : ◌≡◌ {A = ℕ} 0 1 = cc in absurd (omega arith)
look_nonzero (i ∷ is) [] z k x e = let q : ◌≡◌ {A = ℕ} 0 1 = cc in absurd (omega arith)
look_nonzero (i ∷ is) (v ∷ vs) z k x e = go (eqb i k) e (look_nonzero is vs (λ j h. z (suc j) (omega arith)) k x)
  where
    go : (b : Bool) → cond b (Full v) (look is vs k) ≡ Full x → (look is vs k ≡ Full x → is_zero x ≡ false) → is_zero x ≡ false
    go true h rest = let q : v ≡ x = cc in rw (← q) (z zero (omega arith))
    go false h rest = rest h

pub at_nonzero : (v : Vector) → Sound v → (k : ℕ) (x : Float) → at v k ≡ Full x → is_zero x ≡ false
at_nonzero v s = look_nonzero v.indexes v.values s.nonzero
