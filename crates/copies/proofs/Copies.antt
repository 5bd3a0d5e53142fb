-- Entries that are copied one after the other: what each copy leaves as it was, and that all are below the row's next one. Assumes nothing.
use Prim.Native.Nat.{ℕ, zero, suc, ◌+◌, ◌-◌, ◌≤◌, ◌<◌}
use native.Mathlib.Nat.{eq-or-lt_of_le}
use native.Mathlib.Numerals.{add-one}
use native.Mathlib.Omega.{arith}
use mathlib.Core.List.{List}
use mathlib.Core.Logic.{⊎_elim}
use mathlib.Core.Path.{◌≡◌, refl, sym, ap, ◌∙◌}
use lib.ListN.{length, get_or, set, take, drop, length-set, length-take, length-drop}
use native.Mathlib.Nat.{add-sub_cancel_left}
use lib.Seq.{paste, paste-zero, paste-suc, get_or-take, get_or-drop, get_or-set_other}
use lib.Ieee.{Float, nan}
use Rattle.copies.specs.Copies.{Clear, Before, copied, Copied}

-- ---- a list
module _ {ℓ} {A : Type ℓ} (d : A) (l : List A) (at n : ℕ) where
  pub copied_none : copied d l at n 0 ≡ l
  unfolding copied
  copied_none = refl

  pub copied_more : (i : ℕ) → set (copied d l at n i) (n + i) (get_or (copied d l at n i) (at + i) d) ≡ copied d l at n (i + 1)
  unfolding copied
  copied_more i = rw add-one

  pub copied_length : (i : ℕ) → length (copied d l at n i) ≡ length l
  unfolding copied
  copied_length zero = refl
  copied_length (suc i) = length-set (copied d l at n i) (n + i) (get_or (copied d l at n i) (at + i) d) ∙ copied_length i

  -- what lies behind the copies is as it was
  pub copied_later : (i m : ℕ) → n + i ≤ m → get_or (copied d l at n i) m d ≡ get_or l m d
  unfolding copied
  copied_later zero m h = refl
  copied_later (suc i) m h =
      get_or-set_other (copied d l at n i) (n + i) m (get_or (copied d l at n i) (at + i) d) d (λ e. omega arith) ∙ copied_later i m (omega arith)

  -- it is what one copy of all of them leaves
  copied_paste : (i : ℕ) → n ≤ at → at + i ≤ length l → paste l n (drop at l) i ≡ copied d l at n i
  unfolding copied
  copied_paste zero h f = sym (paste-zero l n (drop at l))
  copied_paste (suc i) h f =
      sym (paste-suc l n (drop at l) i d (omega arith) (simp length-drop (omega arith)))
      ∙ rw (copied_paste i h (omega arith), get_or-drop at l i d, copied_later i (at + i) (omega arith))

  copied_at_once : (i : ℕ) → n ≤ at → at + i ≤ length l → paste l n (drop at l) ((at + i) - at) ≡ copied d l at n i
  copied_at_once i h f = rw (add-sub_cancel_left at i) (copied_paste i h f)

-- ---- both lists
module _ {si : List ℕ} {sv : List Float} {at cap n : ℕ} {ib : List ℕ} {q : ℕ} (r : Clear si sv at cap n) where
  pub copied_start : Copied si sv at cap n ib q 0 si sv
  copied_start = record {
    within = omega (arith, r.order);
    low = λ j h. absurd (omega arith);
    indexes = sym (copied_none 0 si at n);
    values = sym (copied_none nan sv at n);
  }

  -- those that were found in the part that is read next, and that were copied at once
  pub copied_found : {k : ℕ} {si' : List ℕ} {sv' : List Float} → Before (take (cap - at) (drop at si)) ib q k
      → si' ≡ paste si n (drop at si) ((at + k) - at) → sv' ≡ paste sv n (drop at sv) ((at + k) - at) → Copied si sv at cap n ib q k si' sv'
  copied_found {k} b is vs =
      let long : length (take (cap - at) (drop at si)) ≡ cap - at = simp (length-take, length-drop) (omega (arith, r.order, r.long)) in
      let within : at + k ≤ cap = omega (arith, b.0, r.order) in
      record {
        within = within;
        low = λ j h l.
            let e = get_or-take (cap - at) (drop at si) j 0 (omega (arith, b.0)) ∙ get_or-drop at si j 0 in
            rw e at (b.1 j h l);
        indexes = is ∙ copied_at_once 0 si at n k r.clear (omega (arith, r.long));
        values = vs ∙ copied_at_once nan sv at n k r.clear (omega (arith, r.long'));
      }

  module _ {k : ℕ} {si' : List ℕ} {sv' : List Float} (c : Copied si sv at cap n ib q k si' sv') where
    pub copied_lengths : (length si' ≡ length si) × (length sv' ≡ length sv)
    copied_lengths = (rw c.indexes (copied_length 0 si at n k), rw c.values (copied_length nan sv at n k))

    -- the next one is copied if it is below
    pub copied_next : at + k < cap → get_or si' (at + k) 0 < get_or ib q 0
        → Copied si sv at cap n ib q (k + 1) (set si' (n + k) (get_or si' (at + k) 0)) (set sv' (n + k) (get_or sv' (at + k) nan))
    copied_next h l =
        let e = ap (λ (x : List ℕ). get_or x (at + k) 0) c.indexes ∙ copied_later 0 si at n k (at + k) (omega (arith, r.clear)) in
        record {
          within = omega arith;
          low = λ j b w. ⊎_elim (λ z. let y : j ≡ k = omega arith in rw y (rw e at l)) (λ z. c.low j (omega arith) w) (eq-or-lt_of_le b);
          indexes = rw c.indexes (copied_more 0 si at n k);
          values = rw c.values (copied_more nan sv at n k);
        }
