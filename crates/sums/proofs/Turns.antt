-- A turn of a sum where both sides have an entry left, by whichever step. Assumes nothing.
use Rattle.std.proofs.Common.{◌≡◌, ℕ, cond, ◌+◌, ◌<◌, length, get_or, Float, refl, sym, add-zero, arith}
use Rattle.std.specs.Float.{nan}
use mir.Val.{bool_byte}
use lib.Dec.{ltb, leb}
use borrow.Author.Tests.{lt-ltb, le-ltb}
use Rattle.sparse.specs.declared.Cell.{Cell}
use Rattle.sparse.specs.declared.Cell.TheVariants.{Empty, Full}
use Rattle.walks.specs.Walk.{turn}
use Rattle.walks.specs.declared.Walk.{Walk}
use Rattle.walks.proofs.Turns.{to_left, to_right, to_both}
use Rattle.walks.proofs.Choices.{left_first, at_once, right_first, whichever}
use Rattle.sums.specs.Loops.{next_of, Added}

-- the entries that are next
abbrev pub left_index : Walk → ℕ
left_index w = get_or w.a.indexes.now w.p 0

abbrev pub right_index : Walk → ℕ
right_index w = get_or w.b.indexes.now w.q 0

abbrev pub left_value : Walk → Float
left_value w = get_or w.a.values.now w.p nan

abbrev pub right_value : Walk → Float
right_value w = get_or w.b.values.now w.q nan

module _ {A : Type 0} (step : A → Cell → Cell → A) (acc : A) (w : Walk)
    (hl : w.p < length w.a.indexes.now) (hr : w.q < length w.b.indexes.now) where
  abbrev i : ℕ
  i = left_index w

  abbrev j : ℕ
  j = right_index w

  abbrev x : Float
  x = left_value w

  abbrev y : Float
  y = right_value w

  -- the turn is to the left side's place, the right one's, or to that of both
  pub left_added : i < j → {sum : A} → sum ≡ step acc (Full x) Empty → Added step acc w sum (w.p + 1) w.q
  left_added l e = record { turn = turn i (Full x) Empty (w.p + 1) w.q; turned = to_left hl (λ k. l); sums = e; left = refl; right = refl }

  pub right_added : j < i → {sum : A} → sum ≡ step acc Empty (Full y) → Added step acc w sum w.p (w.q + 1)
  right_added r e = record { turn = turn j Empty (Full y) w.p (w.q + 1); turned = to_right hr (λ k. r); sums = e; left = refl; right = refl }

  pub met_added : i ≡ j → {sum : A} → sum ≡ step acc (Full x) (Full y) → Added step acc w sum (w.p + 1) (w.q + 1)
  met_added m e =
      record { turn = turn i (Full x) (Full y) (w.p + 1) (w.q + 1); turned = to_both hl hr (sym m); sums = e; left = refl; right = refl }

  -- the turn without a branch
  pub quick_added : {sum : A} → sum ≡ next_of step acc i j x y → Added step acc w sum (w.p + bool_byte (leb i j)) (w.q + bool_byte (leb j i))
  quick_added e =
      whichever i j
      (λ l. let h = left_first i j l in rw (h.2, h.3, add-zero) (left_added l (rw (h.0, h.1) at e)))
      (λ m. let h = at_once i j m in rw (h.2, h.3) (met_added m (rw h.1 at e)))
      (λ r. let h = right_first i j r in rw (h.2, h.3, add-zero) (right_added r (rw (h.0, h.1) at e)))

  -- the turn of sides that do not meet
  pub lone_added : (i ≡ j → ⊥) → {sum : A} → sum ≡ cond (ltb i j) (step acc (Full x) Empty) (step acc Empty (Full y))
      → Added step acc w sum (w.p + bool_byte (ltb i j)) (w.q + bool_byte (ltb j i))
  lone_added apart e =
      whichever i j
      (λ l. let h = lt-ltb i j l in rw (h, le-ltb j i (omega arith), add-zero) (left_added l (rw h at e)))
      (λ m. absurd (apart m))
      (λ r. let h = le-ltb i j (omega arith) in rw (h, lt-ltb j i r, add-zero) (right_added r (rw h at e)))
