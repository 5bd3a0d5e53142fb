-- The laws of counts, tests and lists over the places below n. Assumes nothing.
use Prim.Native.Nat.{ℕ, zero, suc, ◌+◌, ◌≤◌, ◌<◌}
use native.Mathlib.Nat.{eq-or-lt_of_le, le_of_suc-le-suc}
use native.Mathlib.Numerals.{add-one}
use native.Mathlib.Omega.{arith}
use mathlib.Core.Bool.{Bool, true, false, ◌&&◌, ◌||◌, or-true, or-false, true≢false}
use mathlib.Core.List.{List, [], ◌∷◌, ◌++◌, append_assoc}
use mathlib.Core.Logic.{◌⊎◌, inl, inr, ⊎_elim}
use native.Mathlib.Decide.{dec_le}
use mathlib.Core.Path.{◌≡◌, refl, sym, ap, ap₂, ◌∙◌}
use lib.ListN.{length, get_or, set, take, drop, length-append, length-drop, get_or-append}
use lib.Seq.{drop-cons, set_at, get_or_at, get_or-take, length-take-le, ext_get_or}
use Rattle.places.specs.Below.{one, count_below, any_below, list_below}

pub le_or_lt : (m n : ℕ) → (m ≤ n) ⊎ (n < m)
le_or_lt m n = elim (dec_le m n) [ yes h ↦ inl h | no h ↦ inr (omega arith) ]

-- of two tests that pass together each passes
pub and_true : (a b : Bool) → (a && b) ≡ true → (a ≡ true) × (b ≡ true)
and_true true b e = (refl, e)
and_true false b e = absurd (true≢false (sym e))

-- what does not change at any place from k up to m is at m as at k
pub still {ℓ} : {A : Type ℓ} (g : ℕ → A) (k m : ℕ) → k ≤ m → ((i : ℕ) → k ≤ i → i < m → g (suc i) ≡ g i) → g m ≡ g k
still g k zero le same = let e : k ≡ 0 = omega arith in rw e
still g k (suc m) le same =
    ⊎_elim
    (λ e. rw e)
    (λ l. same m (omega arith) (omega arith) ∙ still g k m (omega arith) (λ i a b. same i a (omega arith)))
    (eq-or-lt_of_le le)

-- ---- counts

pub count_none : (t : ℕ → Bool) (i : ℕ) → t i ≡ false → count_below t (suc i) ≡ count_below t i
unfolding count_below
count_none t i e = rw e (omega arith)

pub count_zero : (t : ℕ → Bool) → count_below t 0 ≡ 0
unfolding count_below
count_zero t = refl

-- one place more
pub count_more : (t : ℕ → Bool) (i n : ℕ) → n ≡ count_below t i → n + one (t i) ≡ count_below t (i + 1)
unfolding count_below
count_more t i n e = let s : i + 1 ≡ suc i = omega arith in rw (s, e)

pub count_hit : (t : ℕ → Bool) (i n : ℕ) → t i ≡ true → n ≡ count_below t i → n + 1 ≡ count_below t (suc i)
unfolding count_below
count_hit t i n h e = rw (h, e)

-- no place from k up to m passes the test
pub count_rest : (t : ℕ → Bool) (k m : ℕ) → k ≤ m → ((i : ℕ) → k ≤ i → i < m → t i ≡ false) → count_below t m ≡ count_below t k
count_rest t k m le empty = still (count_below t) k m le (λ i a b. count_none t i (empty i a b))

pub count_same : (t u : ℕ → Bool) (n : ℕ) → ((i : ℕ) → i < n → t i ≡ u i) → count_below t n ≡ count_below u n
unfolding count_below
count_same t u zero same = refl
count_same t u (suc n) same =
    ap₂ (λ (x : ℕ) (b : Bool). x + one b) (count_same t u n (λ i h. same i (omega arith))) (same n (omega arith))

-- m places, and n more
pub count_add : (t : ℕ → Bool) (m n : ℕ) → count_below t (m + n) ≡ count_below t m + count_below (λ i. t (m + i)) n
unfolding count_below
count_add t m zero = let e : m + 0 ≡ m = omega arith in rw e (omega arith)
count_add t m (suc n) =
    let e : m + suc n ≡ suc (m + n) = omega arith in
    rw e (let h = count_add t m n in omega arith)

-- the first place, and those after it
pub count_first : (t : ℕ → Bool) (n : ℕ) → count_below t (suc n) ≡ one (t 0) + count_below (λ i. t (1 + i)) n
unfolding count_below
count_first t zero = omega arith
count_first t (suc n) = let e : 1 + n ≡ suc n = omega arith in rw e (omega (arith, count_first t n))

pub one_most : (b : Bool) → one b ≤ 1
one_most true = omega arith
one_most false = omega arith

pub count_most : (t : ℕ → Bool) (n : ℕ) → count_below t n ≤ n
unfolding count_below
count_most t zero = omega arith
count_most t (suc n) = omega (arith, count_most t n, one_most (t n))

-- a test that passes wherever another does is passed at least as often
pub count_fewer : (t u : ℕ → Bool) (n : ℕ) → ((i : ℕ) → one (t i) ≤ one (u i)) → count_below t n ≤ count_below u n
unfolding count_below
count_fewer t u zero h = omega arith
count_fewer t u (suc n) h = omega (arith, count_fewer t u n h, h n)

-- and a test that passes only where one of two others does at most as often as both together
pub count_either : (t u v : ℕ → Bool) (n : ℕ) → ((i : ℕ) → one (t i) ≤ one (u i) + one (v i)) → count_below t n ≤ count_below u n + count_below v n
unfolding count_below
count_either t u v zero h = omega arith
count_either t u v (suc n) h = omega (arith, count_either t u v n h, h n)

-- ---- some place

pub any_false : (t : ℕ → Bool) (n i : ℕ) → any_below t n ≡ false → i < n → t i ≡ false
unfolding any_below
any_false t zero i e h = absurd (omega arith)
any_false t (suc n) i e h = go (any_below t n) (t n) refl refl e (any_false t n i)
  where
    go : (a b : Bool) → any_below t n ≡ a → t n ≡ b → (a || b) ≡ false → (any_below t n ≡ false → i < n → t i ≡ false) → t i ≡ false
    go false false p q r rest = ⊎_elim (λ same. rw same q) (λ l. rest p (omega arith)) (eq-or-lt_of_le (le_of_suc-le-suc h))
    go false true p q r rest = absurd (true≢false r)
    go true b p q r rest = absurd (true≢false r)

pub any_none : (t : ℕ → Bool) (n : ℕ) → ((i : ℕ) → i < n → t i ≡ false) → any_below t n ≡ false
unfolding any_below
any_none t zero all = refl
any_none t (suc n) all = rw (any_none t n (λ i h. all i (omega arith)), all n (omega arith))

pub any_true : (t : ℕ → Bool) (n i : ℕ) → i < n → t i ≡ true → any_below t n ≡ true
unfolding any_below
any_true t zero i h e = absurd (omega arith)
any_true t (suc n) i h e =
    ⊎_elim
    (λ same. let q : t n ≡ true = rw (← same) e in rw (q, or-true))
    (λ l. rw (any_true t n i (omega arith) e))
    (eq-or-lt_of_le (le_of_suc-le-suc h))

-- one place more, which passes the test or not
pub any_hit : (t : ℕ → Bool) (i : ℕ) → t i ≡ true → true ≡ any_below t (i + 1)
any_hit t i e = sym (any_true t (i + 1) i (omega arith) e)

pub any_miss : (t : ℕ → Bool) (i : ℕ) (b : Bool) → t i ≡ false → b ≡ any_below t i → b ≡ any_below t (i + 1)
unfolding any_below
any_miss t i b e f = let s : i + 1 ≡ suc i = omega arith in rw (s, e, or-false) f

-- ---- lists

pub length_below {ℓ} : {A : Type ℓ} (f : ℕ → A) (n : ℕ) → length (list_below f n) ≡ n
unfolding list_below
length_below f zero = refl
length_below f (suc n) = rw (length-append, length_below f n) (omega arith)

pub at_below {ℓ} : {A : Type ℓ} (f : ℕ → A) (n i : ℕ) (z : A) → i < n → get_or (list_below f n) i z ≡ f i
unfolding list_below
at_below f zero i z h = absurd (omega arith)
at_below f (suc n) i z h =
    ⊎_elim
    (λ same. rw same (get_or_at (list_below f n) (f n) [] z n (length_below f n)))
    (λ l. let m : i < n = omega arith in get_or-append (list_below f n) (f n ∷ []) z i (rw (length_below f n) m) ∙ at_below f n i z m)
    (eq-or-lt_of_le (le_of_suc-le-suc h))

pub list_same {ℓ} : {A : Type ℓ} (f g : ℕ → A) (n : ℕ) → ((i : ℕ) → i < n → f i ≡ g i) → list_below f n ≡ list_below g n
unfolding list_below
list_same f g zero same = refl
list_same f g (suc n) same = rw (list_same f g n (λ i h. same i (omega arith)), same n (omega arith))

-- a list is what stands at its places
pub list_all {ℓ} : {A : Type ℓ} (l : List A) (z : A) → list_below (λ i. get_or l i z) (length l) ≡ l
list_all l z =
    let e = length_below (λ i. get_or l i z) (length l) in
    ext_get_or z (list_below (λ i. get_or l i z) (length l)) l e (λ i h. at_below (λ j. get_or l j z) (length l) i z (rw e at h))

-- the first n entries of a list are what stands at its first n places
pub list_front {ℓ} : {A : Type ℓ} (l : List A) (z : A) (n : ℕ) → n ≤ length l → list_below (λ i. get_or l i z) n ≡ take n l
list_front l z n h =
    let e : length (take n l) ≡ n = length-take-le n l h in
    list_same (λ i. get_or l i z) (λ i. get_or (take n l) i z) n (λ i g. sym (get_or-take n l i z g))
    ∙ ap (list_below (λ i. get_or (take n l) i z)) (sym e)
    ∙ list_all (take n l) z

-- a store at the end of what was stored
pub store {ℓ} : {A : Type ℓ} (f : ℕ → A) (old : List A) (n : ℕ) → n < length old
    → set (list_below f n ++ drop n old) n (f n) ≡ list_below f (n + 1) ++ drop (n + 1) old
unfolding list_below
store f old n h =
    rw
    (add-one, drop-cons old n (f n) h, set_at (list_below f n) (get_or old n (f n)) (drop (suc n) old) (f n) n (length_below f n), append_assoc)

-- what was stored, in front of what is left, is as long as what was there
pub written_length {ℓ} : {A : Type ℓ} (f : ℕ → A) (n : ℕ) (old : List A) → n ≤ length old
    → length (list_below f n ++ drop n old) ≡ length old
written_length f n old h = rw (length-append, length_below, length-drop) (omega arith)

-- ---- a loop that writes f: `new` has f at the first n places, and after them what `old` has there
pub record Wrote {ℓ} {A : Type ℓ} (f : ℕ → A) (old new : List A) (n : ℕ) : Type ℓ where
  pub room : n ≤ length old
  pub front : new ≡ list_below f n ++ drop n old

pub wrote_none {ℓ} : {A : Type ℓ} {f : ℕ → A} {old : List A} → Wrote f old old 0
unfolding list_below
wrote_none = record { room = omega arith; front = refl }

-- one store more
pub wrote_more {ℓ} : {A : Type ℓ} {f : ℕ → A} {old new : List A} {n : ℕ} {v : A} → Wrote f old new n → n < length old → v ≡ f n
    → Wrote f old (set new n v) (n + 1)
wrote_more {f = f} {old} {n = n} w h e = record { room = omega arith; front = rw (w.front, e) (store f old n h) }

-- the stores leave the length
pub wrote_length {ℓ} : {A : Type ℓ} {f : ℕ → A} {old new : List A} {n : ℕ} → Wrote f old new n → length new ≡ length old
wrote_length {f = f} {old} {n = n} w = ap length w.front ∙ written_length f n old w.room
