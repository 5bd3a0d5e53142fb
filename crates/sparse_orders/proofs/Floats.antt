-- How floats compare: `lt` and `eq` put the numbers in one order, the infinities at its ends, and a NaN in none. The laws are the library's.
-- Assumes nothing.
use Rattle.std.proofs.Common.{◌≡◌, Bool, true, false, T, cond, Some, None, ◌⊎◌, refl, sym, ◌∙◌, ⊎_elim, true≢false}
use Rattle.std.specs.Bool.{passes, fails}
use Rattle.std.specs.Float.{NotNan, ◌≤ᶠ◌}
use Rattle.std.specs.Ordering.{float_partial_cmp}
use Rattle.std.specs.declared.cmp.Ordering.TheVariants.{Less, Equal, Greater}
use Rattle.std.proofs.lemmas.Float.{floats_per, lt_irrefl, lt_trans, lt_of_lt_of_le, lt-or-eq, le_of_lt, le_of_eq, le_of_not-lt, le_left, le_right, eq_flip, eq-not_lt}
use lib.Ieee.{Float, lt, eq, is_nan}
use lib.Dec.{T_not}
use Rattle.sparse_orders.specs.Orders.{compared}

-- a test that cannot hold does not
refuted : (t : Bool) → (t ≡ true → ⊥) → t ≡ false
refuted true f = absurd (f refl)
refuted false f = refl

pub so : (t : Bool) → T t → t ≡ true
so true h = refl
so false h = absurd h

-- not both ways
pub one_way : (x y : Float) → lt x y ≡ true → lt y x ≡ false
one_way x y h = refuted (lt y x) (λ k. lt_irrefl x (lt_trans x y x (passes (lt x y) h) (passes (lt y x) k)))

-- equal both ways round
pub eq_turned : (x y : Float) → eq x y ≡ eq y x
eq_turned = floats_per.symm

-- of two numbers that are not equal one is less
pub apart : (x y : Float) → is_nan x ≡ false → is_nan y ≡ false → eq x y ≡ false → lt x y ≡ false → lt y x ≡ true
apart x y n m differ h =
    ⊎_elim
    (λ l. so (lt y x) l)
    (λ e. absurd (true≢false (sym (eq_turned x y ∙ so (eq y x) e) ∙ differ)))
    (lt-or-eq y x (le_of_not-lt x y (fails (is_nan x) n) (fails (is_nan y) m) (fails (lt x y) h)))

-- equal where neither is above the other
pub up_to_both : (x y : Float) → x ≤ᶠ y → y ≤ᶠ x → eq x y ≡ true
up_to_both x y p q = ⊎_elim (λ l. absurd (lt_irrefl x (lt_of_lt_of_le x y x l q))) (λ e. so (eq x y) e) (lt-or-eq x y p)

-- and a NaN is in no order with anything
pub nan_apart : (x y : Float) → (is_nan x ≡ true) ⊎ (is_nan y ≡ true) → (lt x y ≡ false) × (lt y x ≡ false) × (eq x y ≡ false)
nan_apart x y some = (
  refuted (lt x y) (λ h. neither (le_of_lt x y (passes (lt x y) h))),
  refuted (lt y x) (λ h. let k = le_of_lt y x (passes (lt y x) h) in number (le_right y x k) (le_left y x k)),
  refuted (eq x y) (λ h. neither (le_of_eq x y (passes (eq x y) h))),
)
  where
    number : NotNan x → NotNan y → ⊥
    number n m = ⊎_elim (λ h. T_not (is_nan x) n (passes (is_nan x) h)) (λ h. T_not (is_nan y) m (passes (is_nan y) h)) some

    neither : x ≤ᶠ y → ⊥
    neither k = number (le_left x y k) (le_right x y k)

-- the comparison of the definition is the library's
pub compared_lem : (x y : Float) → float_partial_cmp x y ≡ compared x y
compared_lem x y = go (lt x y) (lt y x) (eq x y) (λ e. refuted (lt y x) (λ h. eq-not_lt y x (eq_flip x y (passes (eq x y) e)) (passes (lt y x) h)))
  where
    go : (p q e : Bool) → (e ≡ true → q ≡ false)
        → cond p (Some Less) (cond e (Some Equal) (cond q (Some Greater) None)) ≡ cond p (Some Less) (cond q (Some Greater) (cond e (Some Equal) None))
    go true q e h = refl
    go false true true h = absurd (true≢false (h refl))
    go false false true h = refl
    go false q false h = refl
