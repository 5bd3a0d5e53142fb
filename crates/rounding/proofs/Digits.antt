-- How many binary digits a number has, what is kept of one where all but its first 24 are dropped, and that a whole number's float is made
-- of what is kept. Assumes nothing.
use Prim.Native.Nat.{ℕ, suc, ◌+◌, ◌-◌, ◌*◌, ◌^◌, ◌≤◌, ◌<◌}
use native.Mathlib.Nat.{le_trans, lt_of_lt_of_le, lt_of_not-le, not-le_of_lt}
use native.Mathlib.Nat.{mul-le-mul_right, mul_assoc, one-mul, le-div_iff_mul-le, div-one}
use native.Mathlib.Omega.{arith}
use mathlib.Core.Bool.{false}
use mathlib.Core.Path.{◌≡◌, ◌∙◌}
use lib.IntN.{pos}
use lib.Pow.{pow_pos, pow-add, pow_mono, shl_lt}
use lib.Ieee.{binary32, size, units, of_int}
use lib.Ieee.Digits.{size-lt, size-le, size_reaches}
use lib.Ieee.Fits.{round_is, kept-lt}
use lib.Ieee.Nearest.{closest, closest_same}
use Rattle.rounding.proofs.Multiples.{closest_ge, closest_le}

-- ---- how many there are

-- from 2 ^ j on it is more than j
pub above : (n j : ℕ) → 2 ^ j ≤ n → j < size n
above n j h = lt_of_not-le (λ (g : size n ≤ j). not-le_of_lt (lt_of_lt_of_le (size-lt n) (pow_mono g)) h)

-- from 2 ^ j up to the next power of two it is one more than j
pub size_is : (n j : ℕ) → 2 ^ j ≤ n → n < 2 ^ suc j → size n ≡ suc j
size_is n j h l = omega (arith, above n j h, size-le n (suc j) l)

-- 2 ^ t times a number has t more
pub size_shift : (n t : ℕ) → 0 < n → size (n * 2 ^ t) ≡ size n + t
size_shift n t h =
    let some : 0 < size n = above n 0 h in
    let j = size n - 1 in
    let s : suc j ≡ size n = omega arith in
    let low : 2 ^ (j + t) ≤ n * 2 ^ t = rw (pow-add 2 j t) (mul-le-mul_right (2 ^ t) (size_reaches n j (omega arith))) in
    let high : n * 2 ^ t < 2 ^ (suc j + t) = shl_lt (suc j) t (rw s (size-lt n)) in
    omega (arith, above (n * 2 ^ t) (j + t) low, size-le (n * 2 ^ t) (suc j + t) high)

-- ---- the first 24

-- how many are dropped, and what is kept, to the nearest
abbrev pub dropped : ℕ → ℕ
dropped n = size n - 24

abbrev pub kept : ℕ → ℕ
kept n = closest n (2 ^ dropped n)

-- n with a zeros without b digits is n with c zeros without d digits, where a - b is c - d
pub closest_shift : (n a b c d : ℕ) → a + d ≡ c + b → closest (n * 2 ^ a) (2 ^ b) ≡ closest (n * 2 ^ c) (2 ^ d)
closest_shift n a b c d e =
    closest_same (n * 2 ^ a) (2 ^ b) (n * 2 ^ c) (2 ^ d) (pow_pos b) (pow_pos d)
    (rw (mul_assoc n (2 ^ a) (2 ^ d), mul_assoc n (2 ^ c) (2 ^ b), ← pow-add 2 a d, ← pow-add 2 c b, e))

-- a number of 24 digits or more keeps 24, or comes to the next power of two
pub reach : (n : ℕ) → 24 ≤ size n → 2 ^ 23 * 2 ^ dropped n ≤ n
reach n h = rw (pow-add 2 23 (dropped n)) at (size_reaches n (23 + dropped n) (omega arith))

pub kept_least : (n : ℕ) → 24 ≤ size n → 2 ^ 23 ≤ kept n
kept_least n h = le_trans ((le-div_iff_mul-le (pow_pos (dropped n))).1 (reach n h)) (closest_ge n (2 ^ dropped n))

pub kept_most : (n : ℕ) → kept n ≤ 2 ^ 24
kept_most n = le_trans (closest_le n (2 ^ dropped n)) (kept-lt 24 n)

-- ---- the float

-- n is n * 2 ^ 149 of the smallest floats, of which the first 24 digits are kept
pub of_kept : (n : ℕ) → of_int binary32 (pos n) ≡ units binary32 false (kept (n * 2 ^ 149)) (dropped (n * 2 ^ 149))
unfolding of_int
of_kept n = round_is binary32 false n 1 ∙ simp (div-one, one-mul)
