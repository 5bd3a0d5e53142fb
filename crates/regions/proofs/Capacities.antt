-- The laws of the exponent and of the capacity. Assumes nothing.
use Prim.Native.Nat.{ℕ, zero, suc, ◌+◌, ◌/◌, ◌^◌, min, max, ◌≤◌, ◌<◌}
use native.Mathlib.Nat.{pow-le-pow_right, pow-suc}
use native.Mathlib.Omega.{arith}
use mathlib.Core.Bool.{Bool, true, false, cond}
use mathlib.Core.Logic.{◌⊎◌, inl, inr, ⊎_elim}
use mathlib.Core.Path.{◌≡◌, sym}
use lib.Dec.{leb}
use borrow.Author.Tests.{leb-true, leb-false, eq-eqb, eqb-true}
use Rattle.places.specs.Search.{first_from}
use Rattle.places.proofs.Below.{le_or_lt}
use Rattle.places.proofs.First.{before, hit}
use Rattle.regions.specs.Capacity.{exponent, capacity_for, is_capacity}

-- ---- powers of two

power_le : (k e : ℕ) → k ≤ e → 2 ^ k ≤ 2 ^ e
power_le k e h = pow-le-pow_right {n = 2} (omega arith) {i = k} {j = e} h

-- a number is below the power that it is the exponent of
pub power_above : (n : ℕ) → n < 2 ^ n
power_above zero = omega arith
power_above (suc n) = omega (arith, pow-suc 2 n, power_above n)

power_more : (k e : ℕ) → k < e → 2 ^ k < 2 ^ e
power_more k e h = omega (arith, power_le (suc k) e h, pow-suc 2 k, power_above k)

-- ---- the exponent is the least, from 4 on, whose power is at or above n

starts : (t : ℕ → Bool) (m j : ℕ) → j ≤ first_from t m j
unfolding first_from
starts t zero j = omega arith
starts t (suc m) j = go (t j) (starts t m (suc j))
  where
    go : (b : Bool) → suc j ≤ first_from t m (suc j) → j ≤ cond b j (first_from t m (suc j))
    go true h = omega arith
    go false h = omega arith

pub exponent_from : (n : ℕ) → 4 ≤ exponent n
exponent_from n = starts (λ k. leb n (2 ^ k)) n 4

pub exponent_enough : (n : ℕ) → n ≤ 2 ^ exponent n
exponent_enough n =
    ⊎_elim
    (λ l. omega (arith, power_le n (exponent n) (omega arith), power_above n))
    (λ l. leb-true n (2 ^ exponent n) (hit (λ k. leb n (2 ^ k)) n 4 l))
    (le_or_lt (4 + n) (exponent n))

pub exponent_least : (n k : ℕ) → 4 ≤ k → n ≤ 2 ^ k → exponent n ≤ k
exponent_least n k lo h =
    ⊎_elim
    (λ l. l)
    (λ l. let e : leb n (2 ^ k) ≡ false = before (λ i. leb n (2 ^ i)) n 4 k lo l in absurd (omega (arith, leb-false n (2 ^ k) e)))
    (le_or_lt (exponent n) k)

-- so the next power of two is its power, from 16 on
pub power_least : (n k p : ℕ) → p ≡ 2 ^ k → max n 16 ≤ p → p / 2 < max 1 (max n 16) → p ≡ 2 ^ exponent n
power_least n k p e low high =
    let some : 4 ≤ k = ⊎_elim (λ l. l) (λ l. absurd (omega (arith, power_le k 3 (omega arith)))) (le_or_lt 4 k) in
    let least : exponent n ≤ k = exponent_least n k some (omega arith) in
    let last : k ≤ exponent n =
    ⊎_elim
    (λ l. l)
    (λ l.
    absurd
    (omega (
      arith,
      exponent_enough n,
      power_le 4 (exponent n) (exponent_from n),
      power_le (suc (exponent n)) k l,
      pow-suc 2 (exponent n),
    )))
    (le_or_lt k (exponent n))
    in
    let same : k ≡ exponent n = omega arith in
    rw same at e

-- ---- the capacity

pub cap_most : (d n : ℕ) → capacity_for d n ≤ d
unfolding capacity_for
cap_most d n = omega arith

pub cap_pos : (d n : ℕ) → 1 ≤ d → 1 ≤ capacity_for d n
unfolding capacity_for
cap_pos d n h = omega (arith, power_above (exponent n))

pub cap_le : (d n : ℕ) → n ≤ d → n ≤ capacity_for d n
unfolding capacity_for
cap_le d n h = omega (arith, exponent_enough n)

-- a capacity for more entries has room for fewer, where there are at most dims
pub cap_more : (d l n : ℕ) → l ≤ d → l ≤ capacity_for d (l + n)
unfolding capacity_for
cap_more d l n h = omega (arith, exponent_enough (l + n))

-- a capacity is dims, or has room for all
pub cap_room : (d n : ℕ) → (capacity_for d n ≡ d) ⊎ (n ≤ capacity_for d n)
unfolding capacity_for
cap_room d n = ⊎_elim (λ l. inl (omega arith)) (λ l. inr (omega (arith, exponent_enough n))) (le_or_lt d (2 ^ exponent n))

pub cap_full : (d n : ℕ) → d ≤ n → capacity_for d n ≡ d
unfolding capacity_for
cap_full d n h = omega (arith, exponent_enough n)

-- ---- a capacity is the capacity for itself

again : (e : ℕ) → 4 ≤ e → exponent (2 ^ e) ≡ e
again e lo =
    ⊎_elim
    (λ l. omega (arith, exponent_least (2 ^ e) e lo (omega arith)))
    (λ l. absurd (omega (arith, exponent_enough (2 ^ e), power_more (exponent (2 ^ e)) e l)))
    (le_or_lt e (exponent (2 ^ e)))

same_cap : (d n : ℕ) → capacity_for d (capacity_for d n) ≡ capacity_for d n
unfolding capacity_for
same_cap d n =
    ⊎_elim
    (λ (l : d ≤ 2 ^ exponent n). let e : min (2 ^ exponent n) d ≡ d = omega arith in rw e (omega (arith, exponent_enough d)))
    (λ (l : 2 ^ exponent n < d). let e : min (2 ^ exponent n) d ≡ 2 ^ exponent n = omega arith in rw e (rw (again (exponent n) (exponent_from n)) e))
    (le_or_lt d (2 ^ exponent n))

pub cap_self : (d n : ℕ) → is_capacity d (capacity_for d n) ≡ true
cap_self d n = eq-eqb (capacity_for d (capacity_for d n)) (capacity_for d n) (same_cap d n)

-- so the test finds the capacities for some n up to 2,097,150, and no other
pub cap_some : (d c : ℕ) → d ≤ 1048575 → is_capacity d c ≡ true → (n : ℕ) × (n ≤ 2097150) × (c ≡ capacity_for d n)
cap_some d c h t =
    let e = eqb-true (capacity_for d c) c t in
    (c, omega (arith, cap_most d c), sym e)
