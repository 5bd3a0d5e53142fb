-- When an entry's index falls: it is not above the one before. Assumes nothing.
use Rattle.std.proofs.Common.{◌≡◌, ℕ, ◌+◌, ◌-◌, ◌%◌, ◌<◌, ◌≤◌, true, false, leb, List, length, get_or, arith, below_more, le-ltb, lt-ltb, le-leb}
use lib.Bits.{bit_and, bit_or, and_le_l, and_le_r, or_add_and}
use borrow.Author.Tests.{lt-leb}
use Rattle.places.specs.Below.{any_below}
use Rattle.places.proofs.Below.{any_none}
use Rattle.sparse.specs.Calls.{falls}

pub rises : (is : List ℕ) (i : ℕ) → 0 < i → get_or is (i - 1) 0 < get_or is i 0 → falls is i ≡ false
rises is i p h = rw (lt-ltb 0 i p, lt-leb (get_or is i 0) (get_or is (i - 1) 0) h)

pub fallen : (is : List ℕ) (i : ℕ) → 0 < i → get_or is i 0 ≤ get_or is (i - 1) 0 → falls is i ≡ true
fallen is i p h = rw (lt-ltb 0 i p, le-leb (get_or is i 0) (get_or is (i - 1) 0) h)

pub falls_at : (is : List ℕ) (i : ℕ) → 0 < i → falls is i ≡ leb (get_or is i 0) (get_or is (i - 1) 0)
falls_at is i p = rw (lt-ltb 0 i p)

-- the first entry has none before it
pub first_rises : (is : List ℕ) (i : ℕ) → i < 1 → falls is i ≡ false
first_rises is i h = rw (le-ltb 0 i (omega arith))

-- no or one entry: none falls
pub short : (is : List ℕ) (n : ℕ) → n ≤ 1 → any_below (falls is) n ≡ false
short is n h = any_none (falls is) n (λ i l. first_rises is i (omega arith))

-- ---- many at once
or_least : (a b : ℕ) → (a ≤ bit_or a b) × (b ≤ bit_or a b)
or_least a b = (omega (arith, or_add_and a b, and_le_r a b), omega (arith, or_add_and a b, and_le_l a b))

-- of two numbers below 2^31 the first less the second, modulo 2^32, is 2^31 at least only where the first is smaller
wraps : (a b : ℕ) → a < 2147483648 → b < 2147483648 → 2147483648 ≤ (a + (4294967296 - b)) % 4294967296 → a < b
wraps a b ha hb h = omega arith

-- the indexes below i: if `all` is 2^31 at least and `any` is less, none falls
pub record Risen (is : List ℕ) (all any i : ℕ) : Type 0 where
  pub some : 1 ≤ i
  pub within : i ≤ length is
  pub last : get_or is (i - 1) 0 ≤ any
  pub none : 2147483648 ≤ all → any < 2147483648 → (k : ℕ) → k < i → falls is k ≡ false

pub risen_start : (is : List ℕ) {all : ℕ} → 1 ≤ length is → Risen is all (get_or is 0 0) 1
risen_start is h = record { some = omega arith; within = h; last = omega arith; none = λ a b k l. first_rises is k l }

pub risen_more : {is : List ℕ} {all any i : ℕ} → Risen is all any i → i < length is
    → Risen is (bit_and all ((get_or is (i - 1) 0 + (4294967296 - get_or is i 0)) % 4294967296)) (bit_or any (get_or is i 0)) (i + 1)
risen_more {is} {all} {any} {i} g h =
    let before = get_or is (i - 1) 0 in
    let here = get_or is i 0 in
    let r : ℕ = (before + (4294967296 - here)) % 4294967296 in
    let o = or_least any here in
    let same : i + 1 - 1 ≡ i = omega arith in
    record {
      some = omega arith;
      within = omega arith;
      last = rw same o.1;
      none = λ a b. below_more _ _ (g.none (omega (arith, and_le_l all r)) (omega (arith, o.0)))
          (rises is i (omega (arith, g.some))
          (wraps before here (omega (arith, g.last, o.0)) (omega (arith, o.1)) (omega (arith, and_le_r all r))));
    }
