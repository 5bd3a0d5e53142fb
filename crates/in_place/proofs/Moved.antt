-- Entries that are moved to the far end of a list: they are there what they were, and what lies behind is as it was. Assumes nothing.
use Rattle.std.proofs.Common.{◌≡◌, ℕ, ◌+◌, ◌-◌, ◌≤◌, List, ◌++◌, length, take, drop, append_assoc, length-append, length-take, length-drop, sym, ap, ap₂, ◌∙◌, arith}
use Rattle.std.proofs.lemmas.List.{take-append-drop, take-append-le, drop-take}
use lib.Seq.{length-take-le, paste, take_at, take-take, drop_at, drop-drop}
use Rattle.in_place.specs.Loops.{around}

-- the entries from low up to len of a list, moved up by `gap`
abbrev pub moved : {A : Type 0} → List A → ℕ → ℕ → ℕ → List A
moved l gap len low = paste l (gap + low) (drop low l) (len - low)

module _ {A : Type 0} (l : List A) (gap len : ℕ) (fits : gap + len ≤ length l) (low : ℕ) (h : low ≤ len) where
  -- they stand between what was before and what is left
  moved_is : moved l gap len low ≡ take (gap + low) l ++ (drop low (take len l) ++ drop (gap + len) l)
  moved_is =
      let e : low + (len - low) ≡ len = omega arith in
      let f : gap + low + (len - low) ≡ gap + len = omega arith in
      append_assoc (take (gap + low) l) (take (len - low) (drop low l)) (drop (gap + low + (len - low)) l)
      ∙ ap₂ (λ (x y : List A). take (gap + low) l ++ (x ++ y))
      (rw e at (sym (drop-take low (len - low) l)))
      (ap (λ (k : ℕ). drop k l) f)

  pub moved_length : length (moved l gap len low) ≡ length l
  moved_length = ap length moved_is ∙ simp (length-append, length-take, length-drop) (omega arith)

  -- what was not moved, and what was
  module _ (cap : ℕ) (e : gap + len ≡ cap) where
    long : length (drop low (take len l)) ≡ len - low
    long = simp (length-drop, length-take) (omega arith)

    rest : List A
    rest = drop low (take len l) ++ drop (gap + len) l

    moved_front : take low (moved l gap len low) ≡ take low l
    unfolding rest
    moved_front =
        ap (take low) moved_is
        ∙ take-append-le low (take (gap + low) l) rest (simp length-take (omega arith))
        ∙ take-take low (gap + low) l (omega arith)

    moved_from : drop (gap + low) (moved l gap len low) ≡ drop low (take len l) ++ drop (gap + len) l
    unfolding rest
    moved_from = ap (drop (gap + low)) moved_is ∙ drop_at (take (gap + low) l) rest (gap + low) (length-take-le (gap + low) l (omega arith))

    -- one after the other they are what was there
    pub moved_around : around low gap cap (moved l gap len low) ≡ take len l
    moved_around =
        let n : length (drop low (take len l)) ≡ cap - (gap + low) = omega (arith, long) in
        ap₂ ◌++◌
        (moved_front ∙ sym (take-take low len l h))
        (ap (take (cap - (gap + low))) moved_from ∙ take_at (drop low (take len l)) (drop (gap + len) l) (cap - (gap + low)) n)
        ∙ take-append-drop low (take len l)

    pub moved_after : drop cap (moved l gap len low) ≡ drop cap l
    moved_after =
        let c : cap ≡ gap + low + (len - low) = omega arith in
        ap (λ (k : ℕ). drop k (moved l gap len low)) c
        ∙ sym (drop-drop (len - low) (gap + low) (moved l gap len low))
        ∙ ap (drop (len - low)) moved_from
        ∙ drop_at (drop low (take len l)) (drop (gap + len) l) (len - low) long
        ∙ ap (λ (k : ℕ). drop k l) e
