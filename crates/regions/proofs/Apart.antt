-- What is written in one region leaves the others as they were. Assumes nothing.
use Prim.Native.Nat.{ℕ, zero, suc, ◌+◌, ◌-◌, ◌≤◌, ◌<◌}
use native.Mathlib.Nat.{add-zero, zero-add}
use native.Mathlib.Omega.{arith}
use mathlib.Core.List.{List, [], ◌∷◌}
use mathlib.Core.Logic.{◌⊎◌, inl, inr, ⊎_elim}
use mathlib.Core.Path.{◌≡◌, refl, sym, ap, ◌∙◌}
use lib.ListN.{length, take, drop, length-take, length-drop}
use lib.Seq.{take-nil, take-take, drop-drop}
use Rattle.places.proofs.Below.{le_or_lt}
use Rattle.regions.specs.Regions.{part, Apart, Stands}
use Rattle.regions.proofs.Stands.{all_same}

-- of two regions that do not overlap, and are not empty, one lies after the other
one_after : (start n s k : ℕ) → 1 ≤ n → 1 ≤ k → Apart start n s k → (start + n ≤ s) ⊎ (s + k ≤ start)
one_after start n s k some some' apart = go (le_or_lt (start + n) s) (le_or_lt (s + k) start)
  where
    common : s < start + n → start < s + k → (s ≤ start) ⊎ (start < s) → ⊥
    common low high (inl e) = apart start (omega arith) (omega arith) e high
    common low high (inr e) = apart s (omega arith) low (omega arith) (omega arith)

    go : (start + n ≤ s) ⊎ (s < start + n) → (s + k ≤ start) ⊎ (start < s + k) → (start + n ≤ s) ⊎ (s + k ≤ start)
    go (inl after) b = inl after
    go (inr low) (inl before) = inr before
    go (inr low) (inr high) = absurd (common low high (le_or_lt s start))

module _ {ℓ} {A : Type ℓ} where
  part_front : (s n : ℕ) (l : List A) → part s n l ≡ drop s (take (s + n) l)
  part_front zero n l = rw (zero-add n)
  part_front (suc s) n [] = let e : suc s + n ≡ suc (s + n) = omega arith in rw e (take-nil n)
  part_front (suc s) n (x ∷ l) = let e : suc s + n ≡ suc (s + n) = omega arith in rw e (part_front s n l)

  -- two lists that agree before c agree in each part before c
  part_before : (s n c : ℕ) (old new : List A) → take c new ≡ take c old → s + n ≤ c → part s n new ≡ part s n old
  part_before s n c old new e h =
      part_front s n new
      ∙ ap (drop s) (sym (take-take (s + n) c new h) ∙ ap (take (s + n)) e ∙ take-take (s + n) c old h)
      ∙ sym (part_front s n old)

  -- and so from c on
  part_after : (s n c : ℕ) (old new : List A) → drop c new ≡ drop c old → c ≤ s → part s n new ≡ part s n old
  part_after s n c old new e h =
      let q : c + (s - c) ≡ s = omega arith in
      ap (take n) (sym (rw q at (drop-drop (s - c) c new)) ∙ ap (drop (s - c)) e ∙ rw q at (drop-drop (s - c) c old))

  -- what stands in a region of n places leaves all parts that do not overlap it
  pub stands_apart : {start room : ℕ} {xs old new : List A} → Stands start room xs old new → (n s k : ℕ) → room ≤ n → Apart start n s k
      → part s k new ≡ part s k old
  stands_apart {start = start} {room = zero} {old = old} {new = new} p n s k h apart = ap (part s k) (all_same start new old p.before (rw add-zero at p.after))
  stands_apart {room = suc room} p n s zero h apart = refl
  stands_apart {start = start} {room = suc room} {old = old} {new = new} p n s (suc k) h apart =
      ⊎_elim
      (λ after. part_after s (suc k) (start + suc room) old new p.after (omega arith))
      (λ before. part_before s (suc k) start old new p.before before)
      (one_after start n s (suc k) (omega arith) (omega arith) apart)

  -- a region that is as it was: so is what stands at its front
  pub part_kept : (s n m : ℕ) (old new : List A) → m ≤ n → part s n new ≡ part s n old → part s m new ≡ part s m old
  part_kept s n m old new h e = sym (take-take m n (drop s new) h) ∙ ap (take m) e ∙ take-take m n (drop s old) h

  -- and unless it is empty the list is long enough for it, as it was
  pub part_inside : (s n : ℕ) (old new : List A) → 1 ≤ n → part s n new ≡ part s n old → s + n ≤ length old → s + n ≤ length new
  part_inside s n old new some e h = let a = simp (length-take, length-drop) at (ap length e) in omega arith
