-- When dims are in range. Assumes nothing.
use Prim.Native.Nat.{ℕ, ◌≤◌, ◌<◌}
use native.Mathlib.Omega.{arith}
use mathlib.Core.Bool.{Bool, true, false, ◌||◌, or-true, true≢false}
use mathlib.Core.Path.{◌≡◌, refl}
use lib.Dec.{ltb, eqb}
use borrow.Author.Tests.{eq-eqb, ne_eqb, lt-ltb, le-ltb, eqb-false, ltb-false}
use Rattle.refusal.specs.Dims.{outside}

pub some : (n : ℕ) → (n ≡ 0 → ⊥) → 1 ≤ n
some n h = omega arith

module _ (top d : ℕ) where
  pub zero_outside : d ≡ 0 → outside top d ≡ true
  zero_outside e = rw (eq-eqb d 0 e)

  pub high_outside : top < d → outside top d ≡ true
  high_outside h = rw (lt-ltb top d h, or-true)

  pub in_range : 1 ≤ d → d ≤ top → outside top d ≡ false
  in_range l h = rw (ne_eqb d 0 (λ e. omega arith), le-ltb top d h)

  pub range_in : outside top d ≡ false → (1 ≤ d) × (d ≤ top)
  range_in e = go (eqb d 0) (ltb top d) refl refl e
    where
      go : (z h : Bool) → eqb d 0 ≡ z → ltb top d ≡ h → (z || h) ≡ false → (1 ≤ d) × (d ≤ top)
      go false false ez eh q = (some d (eqb-false d 0 ez), ltb-false top d eh)
      go true h ez eh q = absurd (true≢false q)
      go false true ez eh q = absurd (true≢false q)
