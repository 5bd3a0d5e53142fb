-- What is added at the smaller of two indexes, as a choice among values: -0 where a sum stays as it is. The choices are b, both indexes
-- are the same, and d, the left one is the smaller. Assumes nothing.
use mathlib.Core.Bool.{Bool, true, false, cond}
use mathlib.Core.Path.{◌≡◌, refl, sym, ap, ◌∙◌}
use lib.Dec.{T}
use lib.IntN.{pos}
use lib.Ieee.{Float, fin, binary32, add, sub, mul, neg, fits, of_bits}
use Rattle.whole.proofs.Zero.{add_none, sub_none, square_of_minus}
use Rattle.sparse.specs.Cells.{zero32}
use Rattle.sparse.specs.declared.Cell.TheVariants.{Empty, Full}
use Rattle.sums.specs.Sums.{square_of, three_step}
use Rattle.sums.specs.Loops.{products_step, differences_step}
use Rattle.sums.specs.declared.Products.{Products}
use Rattle.sums.specs.declared.Differences.{Differences}
use Rattle.sums.specs.declared.Three.{Three}

-- ---- the zeros that a program writes

plus_zero : zero32 ≡ fin false 0 (pos 0)
unfolding of_bits
plus_zero = refl

minus_zero : neg zero32 ≡ fin true 0 (pos 0)
unfolding neg of_bits
minus_zero = refl

-- -0 is added
stays : (acc : Float) → T (fits binary32 acc) → add binary32 acc (neg zero32) ≡ acc
stays acc h = ap (add binary32 acc) minus_zero ∙ add_none binary32 acc h

-- the square of a difference to +0
square_left : (x : Float) → T (fits binary32 x) → square_of x ≡ square_of (sub binary32 x zero32)
square_left x h = sym (ap square_of (ap (sub binary32 x) plus_zero ∙ sub_none binary32 x h))

square_right : (y : Float) → T (fits binary32 y) → square_of y ≡ square_of (sub binary32 zero32 y)
square_right y h = sym (ap (λ (z : Float). square_of (sub binary32 z y)) plus_zero ∙ square_of_minus binary32 y h)

-- ---- at the smaller of two indexes

pub product_next : (b d : Bool) (s : Products) (x y : Float) → T (fits binary32 s.0)
    → ◌≡◌ {A = Products} (record { 0 = add binary32 s.0 (cond b (mul binary32 x y) (cond d (neg zero32) (neg zero32))) })
    (cond b (products_step s (Full x) (Full y)) (cond d (products_step s (Full x) Empty) (products_step s Empty (Full y))))
product_next true d s x y h = refl
product_next false true s x y h = rw (stays s.0 h)
product_next false false s x y h = rw (stays s.0 h)

pub three_next : (b d : Bool) (t : Three) (x y : Float) → T (fits binary32 t.x2) → T (fits binary32 t.y2)
    → ◌≡◌ {A = Three}
    (record {
      xy = (cond b (products_step (record { 0 = t.xy }) (Full x) (Full y)) (cond d (products_step (record { 0 = t.xy }) (Full x) Empty) (products_step (record { 0 = t.xy }) Empty (Full y)))).0;
      x2 = add binary32 t.x2 (cond b (square_of x) (cond d (square_of x) (neg zero32)));
      y2 = add binary32 t.y2 (cond b (square_of y) (cond d (neg zero32) (square_of y)));
    })
    (cond b (three_step t (Full x) (Full y)) (cond d (three_step t (Full x) Empty) (three_step t Empty (Full y))))
three_next true d t x y h k = refl
three_next false true t x y h k = rw (stays t.y2 k)
three_next false false t x y h k = rw (stays t.x2 h)

-- ---- at an index of one side

pub left_alone : (s : Differences) (v : Float) → T (fits binary32 v)
    → ◌≡◌ {A = Differences} (record { 0 = add binary32 s.0 (square_of v) }) (differences_step s (Full v) Empty)
left_alone s v h = rw (square_left v h)

pub right_alone : (s : Differences) (v : Float) → T (fits binary32 v)
    → ◌≡◌ {A = Differences} (record { 0 = add binary32 s.0 (square_of v) }) (differences_step s Empty (Full v))
right_alone s v h = rw (square_right v h)

-- a product that is not there adds nothing
pub product_lone : (left : Bool) (s : Products) (x y : Float)
    → s ≡ cond left (products_step s (Full x) Empty) (products_step s Empty (Full y))
product_lone true s x y = refl
product_lone false s x y = refl

pub difference_lone : (left : Bool) (s r : Differences) (x y v : Float) → v ≡ cond left x y
    → r ≡ differences_step s (Full v) Empty → r ≡ differences_step s Empty (Full v)
    → r ≡ cond left (differences_step s (Full x) Empty) (differences_step s Empty (Full y))
difference_lone true s r x y v e l h = rw e at l
difference_lone false s r x y v e l h = rw e at h
