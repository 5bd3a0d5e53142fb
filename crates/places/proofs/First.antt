-- The laws of `first_from`. Assumes nothing.
use Rattle.std.proofs.Common.{◌≡◌, ℕ, zero, suc, ◌+◌, ◌≤◌, ◌<◌, Bool, true, false, cond, Some, None, List, length, get_or, position, ltb, refl, sym, ◌∙◌, ⊎_elim, eq-or-lt_of_le, arith, le-ltb, lt-ltb}
use Rattle.std.proofs.lemmas.List.Sums.{position_or_len_is}
use Rattle.places.specs.Below.{any_below}
use Rattle.places.specs.Search.{first_from, first_where}
use Rattle.places.proofs.Below.{le_or_lt, any_none, any_true}

pub found : (t : ℕ → Bool) (m j i : ℕ) → ((k : ℕ) → j ≤ k → k < i → t k ≡ false) → t i ≡ true → j ≤ i → i < j + m → first_from t m j ≡ i
unfolding first_from
found t zero j i all hit le lt = absurd (omega arith)
found t (suc m) j i all hit le lt =
    ⊎_elim
    (λ e. let h : t j ≡ true = rw e hit in rw h e)
    (λ l. let h : t j ≡ false = all j (omega arith) l in rw h (found t m (suc j) i (λ k a b. all k (omega arith) b) hit l (omega arith)))
    (eq-or-lt_of_le le)

pub none : (t : ℕ → Bool) (m j : ℕ) → ((k : ℕ) → j ≤ k → k < j + m → t k ≡ false) → first_from t m j ≡ j + m
unfolding first_from
none t zero j all = omega arith
none t (suc m) j all =
    let h : t j ≡ false = all j (omega arith) (omega arith) in
    let e : first_from t m (suc j) ≡ suc j + m = none t m (suc j) (λ k a b. all k (omega arith) (omega arith)) in
    rw h (omega arith)

-- before the first there is none
pub before : (t : ℕ → Bool) (m j k : ℕ) → j ≤ k → k < first_from t m j → t k ≡ false
unfolding first_from
before t zero j k le lt = absurd (omega arith)
before t (suc m) j k le lt = go (t j) refl (before t m (suc j) k)
  where
    go : (b : Bool) → t j ≡ b → (suc j ≤ k → k < first_from t m (suc j) → t k ≡ false) → t k ≡ false
    go true e rest = let l : k < j = rw e at lt in absurd (omega arith)
    go false e rest =
        let l : k < first_from t m (suc j) = rw e at lt in
        ⊎_elim (λ q. rw (← q) e) (λ q. rest q l) (eq-or-lt_of_le le)

-- the search ends at or before the end, and where it ends before it the test holds
pub most : (t : ℕ → Bool) (m j : ℕ) → first_from t m j ≤ j + m
unfolding first_from
most t zero j = omega arith
most t (suc m) j = go (t j) (most t m (suc j))
  where
    go : (b : Bool) → first_from t m (suc j) ≤ suc j + m → cond b j (first_from t m (suc j)) ≤ j + suc m
    go true h = omega arith
    go false h = omega arith

pub hit : (t : ℕ → Bool) (m j : ℕ) → first_from t m j < j + m → t (first_from t m j) ≡ true
unfolding first_from
hit t zero j h = absurd (omega arith)
hit t (suc m) j h = go (t j) refl h (hit t m (suc j))
  where
    go : (b : Bool) → t j ≡ b → cond b j (first_from t m (suc j)) < j + suc m
        → (first_from t m (suc j) < suc j + m → t (first_from t m (suc j)) ≡ true) → t (cond b j (first_from t m (suc j))) ≡ true
    go true e l rest = e
    go false e l rest = rest (omega arith)

-- ---- the first place tells whether there is one

pub some_first : (t : ℕ → Bool) (n : ℕ) → first_from t n 0 < n → any_below t n ≡ true
some_first t n h = any_true t n (first_from t n 0) h (hit t n 0 (omega arith))

pub none_first : (t : ℕ → Bool) (n : ℕ) → n ≤ first_from t n 0 → any_below t n ≡ false
none_first t n h = any_none t n (λ i l. before t n 0 i (omega arith) (omega arith))

-- ---- the first place, if there is one

pub where_found : (t : ℕ → Bool) (n i : ℕ) → i < n → t i ≡ true → ((k : ℕ) → k < i → t k ≡ false) → first_where t n ≡ Some i
where_found t n i l hit all = rw (any_true t n i l hit, found t n 0 i (λ k a b. all k b) hit (omega arith) (omega arith))

pub where_none : (t : ℕ → Bool) (n : ℕ) → ((k : ℕ) → k < n → t k ≡ false) → first_where t n ≡ None
where_none t n all = rw (any_none t n all)

-- and back
pub where_some : (t : ℕ → Bool) (n i : ℕ) → first_where t n ≡ Some i → (any_below t n ≡ true) × (i ≡ first_from t n 0)
where_some t n i e = go (any_below t n) refl e
  where
    go : (b : Bool) → any_below t n ≡ b → cond b (Some (first_from t n 0)) None ≡ Some i → (any_below t n ≡ true) × (i ≡ first_from t n 0)
    go true h q = (h, cc)
    go false h q = absurd cc

pub where_nowhere : (t : ℕ → Bool) (n : ℕ) → first_where t n ≡ None → any_below t n ≡ false
where_nowhere t n e = go (any_below t n) refl e
  where
    go : (b : Bool) → any_below t n ≡ b → cond b (Some (first_from t n 0)) None ≡ None → any_below t n ≡ false
    go true h q = absurd cc
    go false h q = h

-- the first that passes tells whether one does
pub first_tells : (t : ℕ → Bool) (n : ℕ) → ltb (first_from t n 0) n ≡ any_below t n
first_tells t n =
    ⊎_elim (λ h. le-ltb _ n h ∙ sym (none_first t n h)) (λ h. lt-ltb _ n h ∙ sym (some_first t n h)) (le_or_lt n (first_from t n 0))

-- the library's search, as a search over places
pub position_where : {A : Type 0} (p : A → Bool) (xs : List A) (d : A) → position p xs ≡ first_where (λ j. p (get_or xs j d)) (length xs)
position_where p xs d =
    let t : ℕ → Bool = λ j. p (get_or xs j d) in
    let n = length xs in
    rw (position_or_len_is p xs (first_from t n 0) d (omega (arith, most t n 0)) (λ k l. before t n 0 k (omega arith) l) (λ l. hit t n 0 (omega arith)), first_tells t n)
