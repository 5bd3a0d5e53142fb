-- Which of two indexes is smaller, as numbers that are added to a place. Assumes nothing.
use Rattle.std.proofs.Common.{ℕ, ◌+◌, ◌*◌, ◌≤◌, ◌<◌, eq-or-lt_of_le, arith, Bool, true, false, cond, [], ◌∷◌, ⊎_elim, ◌≡◌, refl, ltb, leb, eqb, get_or, Float, lt-ltb, le-ltb, le-leb, eq-eqb, ne_eqb}
use mir.Val.{bool_byte}
use lib.Ieee.{nan}
use borrow.Author.Tests.{lt-leb}
use Rattle.places.proofs.Below.{le_or_lt}

pub byte_most : (b : Bool) → bool_byte b ≤ 1
byte_most true = omega arith
byte_most false = omega arith

module _ (i j : ℕ) where
  pub left_first : i < j → (ltb i j ≡ true) × (eqb i j ≡ false) × (leb i j ≡ true) × (leb j i ≡ false)
  left_first l = (lt-ltb i j l, ne_eqb i j (λ e. omega arith), le-leb i j (omega arith), lt-leb j i l)

  pub right_first : j < i → (ltb i j ≡ false) × (eqb i j ≡ false) × (leb i j ≡ false) × (leb j i ≡ true)
  right_first l = (le-ltb i j (omega arith), ne_eqb i j (λ e. omega arith), lt-leb i j l, le-leb j i (omega arith))

  pub at_once : i ≡ j → (ltb i j ≡ false) × (eqb i j ≡ true) × (leb i j ≡ true) × (leb j i ≡ true)
  at_once e = (le-ltb i j (omega arith), eq-eqb i j e, le-leb i j (omega arith), le-leb j i (omega arith))

  -- what holds whichever comes first
  pub whichever {ℓ} : {P : Type ℓ} → (i < j → P) → (i ≡ j → P) → (j < i → P) → P
  whichever l e r = ⊎_elim (λ h. ⊎_elim e l (eq-or-lt_of_le h)) r (le_or_lt i j)

  -- the place in a list of four
  pub place_most : bool_byte (leb i j) + 2 * bool_byte (leb j i) ≤ 3
  place_most = omega (arith, byte_most (leb i j), byte_most (leb j i))

  pub value_there : (x y s : Float)
      → get_or (s ∷ x ∷ y ∷ s ∷ []) (bool_byte (leb i j) + 2 * bool_byte (leb j i)) nan ≡ cond (eqb i j) s (cond (ltb i j) x y)
  value_there x y s =
      whichever
      (λ l. let h = left_first l in rw (h.0, h.1, h.2, h.3) refl)
      (λ e. let h = at_once e in rw (h.1, h.2, h.3) refl)
      (λ r. let h = right_first r in rw (h.0, h.1, h.2, h.3) refl)
