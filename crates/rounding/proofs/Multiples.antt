-- `closest n d`, the multiple of d that is nearest to n, by n's remainder: no multiple is nearer, and where another is as near, it is even.
-- Assumes nothing.
use Prim.Native.Nat.{ℕ, zero, suc, ◌+◌, ◌-◌, ◌*◌, ◌/◌, ◌%◌, ◌≤◌, ◌<◌, compare, Ordering}
use native.Mathlib.Nat.{eq-or-lt_of_le, mul-le-mul_right, div-add-mod', mod-lt}
use native.Mathlib.Decide.{dec_le}
use native.Mathlib.Numerals.{add-one}
use native.Mathlib.Omega.{arith}
use mathlib.Core.Bool.{Bool, true, false}
use mathlib.Core.Logic.{◌⊎◌, inl, inr}
use mathlib.Core.Path.{◌≡◌, refl}
use lib.Dec.{leb, eqb, is_le, compare_is_eq}
use lib.Ieee.Fits.{nearest-le}
use lib.Ieee.Nearest.{closest, nearest-ge}
use borrow.Author.Tests.{le-leb, lt-leb, eq-eqb, ne_eqb}

-- ---- by the remainder

-- the order of two numbers, by the tests of it
abbrev ordered : Bool → Bool → Ordering
ordered le true = Ordering.eq
ordered true false = Ordering.lt
ordered false false = Ordering.gt

compare_is : (a b : ℕ) → compare a b ≡ ordered (leb a b) (eqb a b)
compare_is a b = go (compare a b)
  where
    go : (o : Ordering) → o ≡ ordered (is_le o) (compare_is_eq o)
    go Ordering.lt = refl
    go Ordering.eq = refl
    go Ordering.gt = refl

module _ (n d : ℕ) where
  -- twice the remainder
  abbrev r : ℕ
  r = n % d * 2

  -- it is the quotient or the next number up
  pub closest_ge : n / d ≤ closest n d
  closest_ge = nearest-ge (n / d) (compare r d)

  pub closest_le : closest n d ≤ suc (n / d)
  closest_le = nearest-le (n / d) (compare r d)

  -- and r says which
  pub closest_below : r < d → closest n d ≡ n / d
  closest_below h = rw (compare_is r d, le-leb r d (omega arith), ne_eqb r d (λ e. omega arith))

  pub closest_above : d < r → closest n d ≡ n / d + 1
  closest_above h = rw (compare_is r d, lt-leb r d h, ne_eqb r d (λ e. omega arith), add-one)

  pub closest_half : r ≡ d → closest n d ≡ n / d + n / d % 2
  closest_half h = rw (compare_is r d, eq-eqb r d h)

-- ---- how near it is

-- how far two numbers are apart
abbrev pub apart : ℕ → ℕ → ℕ
apart a b = (a - b) + (b - a)

-- v beside g, where n comes to g and q is kept of it: v is farther from n, or it is g, or it is no nearer and q is even
pub data Beside (n q g v : ℕ) : Type 0 where
  farther : apart g n < apart v n → Beside n q g v
  same : v ≡ g → Beside n q g v
  even : apart g n ≤ apart v n → q % 2 ≡ 0 → Beside n q g v

pub no_nearer : {n q g v : ℕ} → Beside n q g v → apart g n ≤ apart v n
no_nearer (farther l) = omega arith
no_nearer (same e) = rw e (omega arith)
no_nearer (even l e) = l

module _ (n d : ℕ) (D : 0 < d) where
  -- q times d is less than half of d apart from n, or half of it and q is even
  abbrev Half : ℕ → Type 0
  Half q = (apart (q * d) n * 2 < d) ⊎ ((apart (q * d) n * 2 ≡ d) × (q % 2 ≡ 0))

  -- so is `closest n d`
  half : Half (closest n d)
  half =
      let e = div-add-mod' n d in
      elim (dec_le d (n % d * 2)) [
        | no l ↦ rw (closest_below n d (omega arith)) (inl (omega arith))
        | yes l ↦
            elim (dec_le (n % d * 2) d) [
              | no g ↦ rw (closest_above n d (omega arith)) (inl (omega (arith, mod-lt n D)))
              | yes g ↦ rw (closest_half n d (omega arith)) (inr (tie (n / d % 2) (omega arith) (omega arith), omega arith))
            ]
      ]
    where
      tie : (b : ℕ) → b < 2 → n % d * 2 ≡ d → apart ((n / d + b) * d) n * 2 ≡ d
      tie zero h g = omega (arith, div-add-mod' n d)
      tie (suc zero) h g = omega (arith, div-add-mod' n d)
      tie (suc (suc b)) h g = absurd (omega arith)

  -- and then each other multiple is d at least from q times d
  other : (m q : ℕ) → Half q → Beside n q (q * d) (m * d)
  other m q h =
      elim (dec_le m q) [
        | no l ↦
            let k : suc q * d ≤ m * d = mul-le-mul_right d (omega arith) in
            elim h [ inl t ↦ farther (omega arith) | inr t ↦ even (omega arith) t.1 ]
        | yes l ↦
            elim (eq-or-lt_of_le l) [
              | inl e ↦ same (rw e)
              | inr g ↦
                  let k : suc m * d ≤ q * d = mul-le-mul_right d g in
                  elim h [ inl t ↦ farther (omega arith) | inr t ↦ even (omega arith) t.1 ]
            ]
      ]

  pub beside_multiple : (m : ℕ) → Beside n (closest n d) (closest n d * d) (m * d)
  beside_multiple m = other m (closest n d) half
