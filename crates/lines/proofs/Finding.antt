-- Where a byte, or an index, is found in a list: in one that is cut short, and in two that are joined. Assumes nothing.
use Prim.Native.Nat.{ℕ, zero, suc, ◌+◌, ◌-◌, ◌<◌, min}
use mathlib.Core.Bool.{Bool, true, false}
use mathlib.Core.List.{List, [], ◌∷◌, ◌++◌}
use mathlib.Core.Path.{◌≡◌, refl, sym, ap}
use native.Mathlib.Omega.{arith}
use lib.Dec.{eqb}
use lib.ListN.{length, take, drop, length-append}
use lib.Seq.{take-nil, take-append_seam, drop-append-add}
use borrow.Author.Tests.{eq-eqb, ne_eqb, eqb-true}
use Rattle.finding.specs.Finding.{index_of, index_after}

-- ---- cut short

pub index_take : (b n : ℕ) (s : List ℕ) → index_of b (take n s) ≡ min n (index_of b s)
unfolding index_of index_after
index_take b zero s = omega arith
index_take b (suc n) [] = omega arith
index_take b (suc n) (x ∷ s) = go (eqb x b) (index_take b n s)
  where
    go : (t : Bool) → index_of b (take n s) ≡ min n (index_of b s) → index_after t (index_of b (take n s)) ≡ min (suc n) (index_after t (index_of b s))
    go true h = omega arith
    go false h = omega (arith, h)

pub drop_take : (k n : ℕ) (s : List ℕ) → drop k (take n s) ≡ take (n - k) (drop k s)
drop_take zero n s = let same : n - 0 ≡ n = omega arith in rw same
drop_take (suc k) zero s = let none : 0 - suc k ≡ 0 = omega arith in rw none
drop_take (suc k) (suc n) [] = sym (take-nil (suc n - suc k))
drop_take (suc k) (suc n) (x ∷ s) = let less : suc n - suc k ≡ n - k = omega arith in rw less (drop_take k n s)

-- ---- joined

-- the byte b is not in the text
abbrev pub Lacks : ℕ → List ℕ → Type 0
Lacks b s = index_of b s ≡ length s

pub index_append : (b : ℕ) (s t : List ℕ) → Lacks b s → index_of b (s ++ t) ≡ length s + index_of b t
unfolding index_of index_after
index_append b [] t h = omega arith
index_append b (x ∷ s) t h = go (eqb x b) (index_append b s t) h
  where
    go : (c : Bool) → (Lacks b s → index_of b (s ++ t) ≡ length s + index_of b t) → index_after c (index_of b s) ≡ suc (length s)
        → index_after c (index_of b (s ++ t)) ≡ suc (length s) + index_of b t
    go true f h = absurd (omega arith)
    go false f h = omega (arith, f (omega arith))

pub lacks_append : (b : ℕ) (s t : List ℕ) → Lacks b s → Lacks b t → Lacks b (s ++ t)
lacks_append b s t h l = omega (arith, index_append b s t h, length-append s t, l)

pub lacks_one : (b x : ℕ) → (x ≡ b → ⊥) → Lacks b (x ∷ [])
unfolding index_of index_after
lacks_one b x h = rw (ne_eqb x b h)

-- the byte b follows a text that lacks it
module _ (b : ℕ) (s t : List ℕ) (lacks : Lacks b s) where
  pub index_next : index_of b (s ++ b ∷ t) ≡ length s
  unfolding index_of index_after
  index_next = rw (index_append b s (b ∷ t) lacks, eq-eqb b b refl) (omega arith)

  pub before_next : take (index_of b (s ++ b ∷ t)) (s ++ b ∷ t) ≡ s
  before_next = rw index_next (take-append_seam s (b ∷ t))

  pub after_next : drop (suc (index_of b (s ++ b ∷ t))) (s ++ b ∷ t) ≡ t
  after_next =
      let n : suc (length s) ≡ length s + 1 = omega arith in
      rw (index_next, n) (drop-append-add s (b ∷ t) 1)

-- ---- found

-- a text that has the byte b: what is before the first b, and what is after it
pub found_split : (b : ℕ) (s : List ℕ) → index_of b s < length s → s ≡ take (index_of b s) s ++ b ∷ drop (suc (index_of b s)) s
unfolding index_of index_after
found_split b [] h = absurd (omega arith)
found_split b (x ∷ s) h = go (eqb x b) refl (found_split b s) h
  where
    go : (c : Bool) → eqb x b ≡ c → (index_of b s < length s → s ≡ take (index_of b s) s ++ b ∷ drop (suc (index_of b s)) s)
        → index_after c (index_of b s) < suc (length s)
        → x ∷ s ≡ take (index_after c (index_of b s)) (x ∷ s) ++ b ∷ drop (suc (index_after c (index_of b s))) (x ∷ s)
    go true e f h = ap (λ (y : ℕ). y ∷ s) (eqb-true x b e)
    go false e f h = ap (λ (t : List ℕ). x ∷ t) (f (omega arith))
