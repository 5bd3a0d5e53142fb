-- A turn of a merge in place: what one without a branch stores, and what any turn leaves. Assumes nothing.
use Prim.Native.Nat.{ℕ, ◌+◌, ◌-◌, min, ◌≤◌, ◌<◌}
use native.Mathlib.Omega.{arith}
use mathlib.Core.Bool.{false, cond}
use mathlib.Core.List.{List}
use mathlib.Core.Logic.{⊎_elim}
use mathlib.Core.Path.{◌≡◌, refl, sym, ap, ◌∙◌}
use mir.Val.{bool_byte}
use lib.Dec.{ltb, leb, eqb}
use lib.ListN.{length, get_or, set, drop, length-set}
use lib.Seq.{get_or-take, get_or-drop}
use lib.Ieee.{Float, nan, add, binary32}
use Rattle.sparse.specs.Cells.{is_zero}
use Rattle.sparse.specs.declared.Cell.{Cell}
use Rattle.sparse.specs.declared.Cell.TheVariants.{Empty, Full}
use Rattle.walks.specs.Walk.{turn, Taken, put_index, put_value}
use Rattle.walks.proofs.Choices.{whichever, left_first, at_once, right_first}
use Rattle.walks.proofs.Stores.{put_most}
use Rattle.walks.proofs.Turns.{to_left, to_right, to_both}
use Rattle.steps.specs.Places.{added}
use Rattle.regions.specs.Regions.{part}
use Rattle.regions.proofs.Stands.{part_length}
use Rattle.strides.specs.Strides.{Meeting, Stepped, step}
use Rattle.copies.specs.declared.Step.{Step}

-- what stands first in a part
pub part_first {ℓ} : {A : Type ℓ} (start n : ℕ) (l : List A) (z : A) → 0 < n → get_or (part start n l) 0 z ≡ get_or l start z
part_first start n l z h =
    let e : start + 0 ≡ start = omega arith in
    get_or-take n (drop start l) 0 z h ∙ get_or-drop start l 0 z ∙ ap (λ (k : ℕ). get_or l k z) e

-- ---- the turn without a branch
module _ {si : List ℕ} {sv : List Float} {at cap n : ℕ} {ib : List ℕ} {vb : List Float} {q : ℕ} (m : Meeting si sv at cap n ib vb q)
    (keeps : is_zero (add binary32 (get_or sv at nan) (get_or vb q nan)) ≡ false) where
  abbrev i : ℕ
  i = get_or si at 0

  abbrev j : ℕ
  j = get_or ib q 0

  abbrev x : Float
  x = get_or sv at nan

  abbrev y : Float
  y = get_or vb q nan

  abbrev is : List ℕ
  is = part at (cap - at) si

  abbrev vs : List Float
  vs = part at (cap - at) sv

  long : length is ≡ cap - at
  long = part_length at (cap - at) si (omega (arith, m.left, m.long))

  first : get_or is 0 0 ≡ i
  first = part_first at (cap - at) si 0 (omega (arith, m.left))

  value : get_or vs 0 nan ≡ x
  value = part_first at (cap - at) sv nan (omega (arith, m.left))

  abbrev Done : Type 0
  Done =
      Stepped si sv at cap n ib vb q (step (at + bool_byte (leb i j)) (q + bool_byte (leb j i)) (n + 1))
      (set si n (min j i))
      (set sv n (cond (eqb i j) (add binary32 x y) (cond (ltb i j) x y)))

  from_left : i < j → Done
  from_left l =
      let h = left_first i j l in
      let low : min j i ≡ i = omega arith in
      rw (low, h.0, h.1, h.2, h.3)
      (record {
        turn = turn (get_or is 0 0) (Full (get_or vs 0 nan)) Empty (0 + 1) q;
        some = omega (arith, m.left, m.right);
        turned = to_left (omega (arith, long, m.left)) (λ k. omega (arith, first));
        put = record { count = refl; indexes = rw first; values = rw value };
        left = refl;
        right = omega arith;
      })

  from_right : j < i → Done
  from_right l =
      let h = right_first i j l in
      let low : min j i ≡ j = omega arith in
      rw (low, h.0, h.1, h.2, h.3)
      (record {
        turn = turn j Empty (Full y) 0 (q + 1);
        some = omega (arith, m.left, m.right);
        turned = to_right m.right (λ k. omega (arith, first));
        put = record { count = refl; indexes = refl; values = refl };
        left = omega arith;
        right = refl;
      })

  from_both : i ≡ j → Done
  from_both e =
      let h = at_once i j e in
      let low : min j i ≡ j = omega arith in
      rw (low, h.0, h.1, h.2, h.3)
      (record {
        turn = turn (get_or is 0 0) (Full (get_or vs 0 nan)) (Full y) (0 + 1) (q + 1);
        some = omega (arith, m.left, m.right);
        turned = to_both (omega (arith, long, m.left)) m.right (sym e ∙ sym first);
        put = rw (value, keeps) (record { count = refl; indexes = rw (first, e); values = refl });
        left = refl;
        right = refl;
      })

  pub stored : Done
  stored = whichever i j from_left from_both from_right

-- ---- after a turn
pub taken_most : (is : List ℕ) (vs : List Float) (p : ℕ) {k p' : ℕ} {x : Cell} → Taken is vs p k x p' → p' ≤ p + 1
taken_most is vs p t = ⊎_elim (λ e. omega (arith, e.3)) (λ e. omega (arith, e.2)) t

put_index_length : (z : Cell) (l : List ℕ) (n k : ℕ) → length (put_index z l n k) ≡ length l
put_index_length Empty l n k = refl
put_index_length (Full v) l n k = length-set l n k

put_value_length : (z : Cell) (l : List Float) (n : ℕ) → length (put_value z l n) ≡ length l
put_value_length Empty l n = refl
put_value_length (Full v) l n = length-set l n v

module _ {si : List ℕ} {sv : List Float} {at cap n : ℕ} {ib : List ℕ} {vb : List Float} {q : ℕ} {r : Step} {si' : List ℕ} {sv' : List Float}
    (s : Stepped si sv at cap n ib vb q r si' sv') where
  abbrev cell : Cell
  cell = added s.turn.x s.turn.y

  pub next_most : (r.at ≤ at + 1) × (r.q ≤ q + 1) × (r.n ≤ n + 1)
  next_most = (
    omega (arith, s.left, taken_most (part at (cap - at) si) (part at (cap - at) sv) 0 s.turned.left),
    omega (arith, s.right, taken_most ib vb q s.turned.right),
    omega (arith, s.put.count, put_most cell n),
  )

  pub next_passed : at + q < r.at + r.q
  next_passed = omega (arith, s.left, s.right, s.turned.some)

  pub same_lengths : (length si' ≡ length si) × (length sv' ≡ length sv)
  same_lengths = (rw s.put.indexes (put_index_length cell si n s.turn.place), rw s.put.values (put_value_length cell sv n))
