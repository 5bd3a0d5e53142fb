-- Numbers, read digit by digit: what is left of a text decides what the whole stands for. Assumes nothing.
use Prim.Native.Nat.{ℕ, ◌+◌, ◌*◌, ◌≤◌, ◌<◌}
use mathlib.Core.Bool.{◌&&◌, cond, and-false}
use mathlib.Core.List.{List, [], ◌∷◌}
use Rattle.std.specs.Prelude.{Option, Some, None}
use mathlib.Core.Path.{◌≡◌}
use native.Mathlib.Nat.{le_trans, mul-le-mul_left, mul-one}
use native.Mathlib.Numerals.{add-one}
use native.Mathlib.Omega.{arith}
use lib.Dec.{leb}
use lib.ListN.{length, get_or, drop}
use lib.Seq.{drop-cons, drop-length}
use borrow.Author.Tests.{lt-ltb, le-ltb, le-leb, lt-leb}
use Rattle.lines.specs.Numerals.{digit_of, all_digits, value_from}

-- the number that the digits n and then s stand for, if it fits
abbrev pub from : ℕ → ℕ → List ℕ → Option ℕ
from base n s = cond (all_digits base s && leb (value_from base n s) 4294967295) (Some (value_from base n s)) None

-- a digit more makes no number smaller
pub grows : (base n : ℕ) (s : List ℕ) → 1 ≤ base → n ≤ value_from base n s
unfolding value_from
grows base n [] h = omega arith
grows base n (c ∷ s) h =
    let more : n * 1 ≤ n * base = mul-le-mul_left n h in
    le_trans (omega (arith, mul-one n)) (grows base (n * base + digit_of c) s h)

pub too_large : (base n : ℕ) (s : List ℕ) → 1 ≤ base → 4294967295 < n → from base n s ≡ None
too_large base n s h large =
    let l : 4294967295 < value_from base n s = omega (arith, grows base n s h) in
    rw (lt-leb _ _ l, and-false)

pub ended : (base n : ℕ) (s : List ℕ) → n ≤ 4294967295 → Some n ≡ from base n (drop (length s) s)
unfolding all_digits value_from
ended base n s h = rw (drop-length s, le-leb n 4294967295 h)

-- d is the digit at i
module _ (base n : ℕ) (s : List ℕ) (i d : ℕ) (more : i < length s) (is : d ≡ digit_of (get_or s i 0)) where
  pub no_digit : base ≤ d → from base n (drop i s) ≡ None
  unfolding all_digits value_from
  no_digit h = rw (drop-cons s i 0 more, ← is, le-ltb d base h)

  pub one_digit : d < base → from base n (drop i s) ≡ from base (n * base + d) (drop (i + 1) s)
  unfolding all_digits value_from
  one_digit h = rw (is, add-one, drop-cons s i 0 more, lt-ltb (digit_of (get_or s i 0)) base (rw is at h))
