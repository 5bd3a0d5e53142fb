-- A turn of a sum, a difference or a product, by whichever way. Assumes nothing.
use Rattle.std.proofs.Common.{◌≡◌, ℕ, ◌+◌, ◌≤◌, ◌<◌, min, cond, ltb, leb, eqb, List, length, get_or, set, refl, sym, ⊎_elim, arith, length-set}
use Rattle.std.specs.Float.{Float, nan}
use mir.Val.{bool_byte}
use Rattle.sparse.specs.Cells.{keep}
use Rattle.sparse.specs.declared.Cell.{Cell}
use Rattle.sparse.specs.declared.Cell.TheVariants.{Empty, Full}
use Rattle.walks.specs.declared.Walk.{Walk}
use Rattle.walks.specs.Walk.{turn, Taken, Put, put_index, put_value}
use Rattle.walks.proofs.Choices.{left_first, right_first, at_once, whichever}
use Rattle.walks.proofs.Turns.{to_left, to_right, to_both}
use Rattle.steps.specs.Places.{multiplied}
use Rattle.steps.specs.Turns.{sum_of, alone_of, met_of, Steady, Stores, Stepped, step}
use Rattle.steps.specs.declared.Sign.{Sign}
use Rattle.steps.specs.declared.Sign.TheVariants.{Plus, Minus}
use Rattle.steps.specs.declared.Step.{Step}

-- ---- what the three kinds of places come to
left_alone : (sign : Sign) (x : Float) → sum_of sign (Full x) Empty ≡ Full x
left_alone Minus x = refl
left_alone Plus x = refl

right_alone : (sign : Sign) (y : Float) → sum_of sign Empty (Full y) ≡ Full (alone_of sign y)
right_alone Minus y = refl
right_alone Plus y = refl

pub both_met : (sign : Sign) (x y : Float) → sum_of sign (Full x) (Full y) ≡ keep (met_of sign x y)
both_met Minus x y = refl
both_met Plus x y = refl

module _ {w : Walk} {n : ℕ} {oi : List ℕ} {ov : List Float} (s : Steady w n oi ov) where
  abbrev is : List ℕ
  is = w.a.indexes.now

  abbrev vs : List Float
  vs = w.a.values.now

  abbrev p : ℕ
  p = w.p

  abbrev js : List ℕ
  js = w.b.indexes.now

  abbrev ws : List Float
  ws = w.b.values.now

  abbrev q : ℕ
  q = w.q

  abbrev i : ℕ
  i = get_or is p 0

  abbrev j : ℕ
  j = get_or js q 0

  abbrev x : Float
  x = get_or vs p nan

  abbrev y : Float
  y = get_or ws q nan

  -- both sides are at one place
  pub met_stepped : {join : Cell → Cell → Cell} → p < length is → q < length js → j ≡ i → {z : Cell} → z ≡ join (Full x) (Full y)
      → {n' : ℕ} {oi' : List ℕ} {ov' : List Float} → Put z i n oi ov n' oi' ov'
      → Stepped join w n oi ov (step (p + 1) (q + 1) n') oi' ov'
  met_stepped l r e same put =
      record {
        turn = turn i (Full x) (Full y) (p + 1) (q + 1);
        more = s.standing.more;
        turned = to_both l r e;
        put = rw (← same) put;
        left = refl;
        right = refl;
      }

  -- a product has nothing where they are at two
  pub none_stepped : p < length is → q < length js → (i ≡ j → ⊥)
      → Stepped multiplied w n oi ov (step (p + bool_byte (ltb i j)) (q + bool_byte (ltb j i)) n) oi ov
  none_stepped l r other =
      whichever i j
      (λ less.
      let h = left_first i j less in
      let g = right_first j i less in
      rw (h.0, g.0)
      (record {
        turn = turn i (Full x) Empty (p + 1) q;
        more = s.standing.more;
        turned = to_left l (λ k. less);
        put = record { count = refl; indexes = refl; values = refl };
        left = refl;
        right = omega arith;
      }))
      (λ e. absurd (other e))
      (λ less.
      let h = right_first i j less in
      let g = left_first j i less in
      rw (h.0, g.0)
      (record {
        turn = turn j Empty (Full y) p (q + 1);
        more = s.standing.more;
        turned = to_right r (λ k. less);
        put = record { count = refl; indexes = refl; values = refl };
        left = omega arith;
        right = refl;
      }))

  -- the turn without a branch
  pub stored : (sign : Sign) → Stores sign w
      → Stepped (sum_of sign) w n oi ov (step (p + bool_byte (leb i j)) (q + bool_byte (leb j i)) (n + 1))
      (set oi n (min i j))
      (set ov n (cond (eqb i j) (met_of sign x y) (cond (ltb i j) x (alone_of sign y))))
  stored sign h =
      whichever i j
      (λ less.
      let b = left_first i j less in
      let m : min i j ≡ i = omega arith in
      rw (m, b.0, b.1, b.2, b.3)
      (record {
        turn = turn i (Full x) Empty (p + 1) q;
        more = s.standing.more;
        turned = to_left h.left (λ k. less);
        put = rw (left_alone sign x) (record { count = refl; indexes = refl; values = refl });
        left = refl;
        right = omega arith;
      }))
      (λ e.
      let b = at_once i j e in
      let m : min i j ≡ j = omega arith in
      rw (m, b.0, b.1, b.2, b.3)
      (record {
        turn = turn i (Full x) (Full y) (p + 1) (q + 1);
        more = s.standing.more;
        turned = to_both h.left h.right (sym e);
        put = rw (both_met sign x y, h.some e) (record { count = refl; indexes = rw e; values = refl });
        left = refl;
        right = refl;
      }))
      (λ less.
      let b = right_first i j less in
      let m : min i j ≡ j = omega arith in
      rw (m, b.0, b.1, b.2, b.3)
      (record {
        turn = turn j Empty (Full y) p (q + 1);
        more = s.standing.more;
        turned = to_right h.right (λ k. less);
        put = rw (right_alone sign y) (record { count = refl; indexes = refl; values = refl });
        left = omega arith;
        right = refl;
      }))

-- ---- after a turn
taken_within : (is : List ℕ) (vs : List Float) (p k : ℕ) (x : Cell) (p' : ℕ) → p ≤ length is → Taken is vs p k x p' → (p' ≤ length is) × (p' ≤ p + 1)
taken_within is vs p k x p' h t =
    ⊎_elim (λ e. (omega (arith, e.0, e.3), omega (arith, e.3))) (λ e. (omega (arith, e.2), omega (arith, e.2))) t

taken_on : (is : List ℕ) (vs : List Float) (p k : ℕ) (x : Cell) (p' : ℕ) → Taken is vs p k x p' → p ≤ p'
taken_on is vs p k x p' t = ⊎_elim (λ e. omega (arith, e.3)) (λ e. omega (arith, e.2)) t

put_index_length : (z : Cell) (l : List ℕ) (n k : ℕ) → length (put_index z l n k) ≡ length l
put_index_length Empty l n k = refl
put_index_length (Full v) l n k = length-set l n k

put_value_length : (z : Cell) (l : List Float) (n : ℕ) → length (put_value z l n) ≡ length l
put_value_length Empty l n = refl
put_value_length (Full v) l n = length-set l n v

module _ {join : Cell → Cell → Cell} {w : Walk} {n : ℕ} {oi : List ℕ} {ov : List Float} {r : Step} {oi' : List ℕ} {ov' : List Float}
    (s : Stepped join w n oi ov r oi' ov') where
  pub index_length : length oi' ≡ length oi
  index_length = rw s.put.indexes (put_index_length (join s.turn.x s.turn.y) oi n s.turn.place)

  pub value_length : length ov' ≡ length ov
  value_length = rw s.put.values (put_value_length (join s.turn.x s.turn.y) ov n)

  pub left_within : w.p ≤ length w.a.indexes.now → (r.p ≤ length w.a.indexes.now) × (r.p ≤ w.p + 1)
  left_within h = rw s.left (taken_within w.a.indexes.now w.a.values.now w.p s.turn.place s.turn.x s.turn.p h s.turned.left)

  pub right_within : w.q ≤ length w.b.indexes.now → (r.q ≤ length w.b.indexes.now) × (r.q ≤ w.q + 1)
  right_within h = rw s.right (taken_within w.b.indexes.now w.b.values.now w.q s.turn.place s.turn.y s.turn.q h s.turned.right)

  pub left_on : w.p ≤ r.p
  left_on = rw s.left (taken_on w.a.indexes.now w.a.values.now w.p s.turn.place s.turn.x s.turn.p s.turned.left)

  pub right_on : w.q ≤ r.q
  right_on = rw s.right (taken_on w.b.indexes.now w.b.values.now w.q s.turn.place s.turn.y s.turn.q s.turned.right)

  pub passes : w.p + w.q < r.p + r.q
  passes = omega (arith, s.turned.some, s.left, s.right)
