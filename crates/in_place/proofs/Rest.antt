-- What is left of a state's entries where a merge has come: the part of the list that it reads next, and what a turn over that part says of
-- all of the entries. Assumes nothing.
use Prim.Native.Nat.{ℕ, ◌+◌, ◌-◌, ◌≤◌}
use native.Mathlib.Nat.{add-zero}
use native.Mathlib.Omega.{arith}
use mathlib.Core.List.{List}
use mathlib.Core.Logic.{inl, inr, ⊎_elim}
use mathlib.Core.Path.{◌≡◌, sym, ap, ◌∙◌}
use lib.ListN.{length, get_or, take, drop, length-drop}
use lib.Seq.{get_or-drop, drop-drop, drop-append-add, length-take-le}
use lib.Ieee.{Float, nan}
use Rattle.std.proofs.lemmas.List.{drop-take}
use Rattle.sparse.specs.declared.Cell.{Cell}
use Rattle.sparse.specs.declared.Cell.TheVariants.{Full}
use Rattle.walks.specs.Walk.{turn, Taken, Turned}
use Rattle.walks.specs.declared.Turn.{Turn}
use Rattle.regions.specs.Regions.{part}
use Rattle.in_place.specs.Loops.{around}

-- ---- turns over what is left from p on
module _ (is : List ℕ) (vs : List Float) (p : ℕ) where
  first_left : {A : Type 0} (l : List A) (z : A) → get_or (drop p l) 0 z ≡ get_or l p z
  first_left l z = get_or-drop p l 0 z ∙ ap (λ (n : ℕ). get_or l n z) (add-zero p)

  taken_left : {k p' : ℕ} {x : Cell} → Taken (drop p is) (drop p vs) 0 k x p' → Taken is vs p k x (p + p')
  taken_left t =
      let e = length-drop p is in
      ⊎_elim
      (λ r. inl (omega arith, sym (first_left is 0) ∙ r.1, r.2 ∙ ap Full (first_left vs nan), omega arith))
      (λ r. inr (λ h. rw (← first_left is 0) (r.0 (omega arith)), r.1, omega arith))
      t

  pub turned_left : {js : List ℕ} {ws : List Float} {q : ℕ} {t : Turn} → Turned (drop p is) (drop p vs) 0 js ws q t
      → Turned is vs p js ws q (turn t.place t.x t.y (p + t.p) t.q)
  turned_left u = record { left = taken_left u.left; right = u.right; some = omega (arith, u.some) }

-- ---- the part that is read next

module _ {A : Type 0} (l : List A) (low gap cap : ℕ) (long : cap ≤ length l) where
  -- from the entry p on, the entries are those from gap + p on
  pub around_from : (p : ℕ) → low ≤ p → gap + p ≤ cap → drop p (around low gap cap l) ≡ part (gap + p) (cap - (gap + p)) l
  around_from p h k =
      let s : p ≡ low + (p - low) = omega arith in
      let e : length (take low l) ≡ low = length-take-le low l (omega arith) in
      let n : cap - (gap + low) ≡ p - low + (cap - (gap + p)) = omega arith in
      let d : gap + low + (p - low) ≡ gap + p = omega arith in
      ap (λ (i : ℕ). drop i (around low gap cap l)) (s ∙ ap (λ (i : ℕ). i + (p - low)) (sym e))
      ∙ drop-append-add (take low l) (part (gap + low) (cap - (gap + low)) l) (p - low)
      ∙ ap (λ (i : ℕ). drop (p - low) (take i (drop (gap + low) l))) n
      ∙ drop-take (p - low) (cap - (gap + p)) (drop (gap + low) l)
      ∙ ap (take (cap - (gap + p))) (drop-drop (p - low) (gap + low) l ∙ ap (λ (i : ℕ). drop i l) d)
