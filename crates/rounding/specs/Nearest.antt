-- Request #109: "the count rounded to the nearest f32, ties to even". `of_int binary32 (pos n)` of `lib.Ieee` is the float that n is rounded to.
-- Here is what "nearest" says, by whole numbers alone; `of_nearest` (proofs/Nearest) shows it of that float.
use Rattle.std.specs.Prelude.{ℕ, ◌-◌, ◌*◌, ◌/◌, ◌%◌, ◌^◌, ◌≤◌, ◌⊎◌, ◌≡◌, T, ℤ, pos, nat_abs, ◌-ℤ◌, Float}
use Rattle.std.specs.Float.{nan, inf, fin, binary32}
use Rattle.std.specs.Float.Ieee.{up, down, fits, to_bits, size}
use Rattle.std.specs.Float.Ieee.Nearest.{closest}
use Rattle.std.specs.Float.Ieee.Scale.{finite}
use Rattle.whole.specs.Whole.{signed}

-- every finite f32 is so many of the smallest, 2 ^ -149: m * 2 ^ e * 2 ^ 149 of them. An infinity and NaN are none here
abbrev pub steps : Float → ℤ
steps nan = pos 0
steps (inf s) = pos 0
steps (fin s m e) = signed s (m * up e * 2 ^ 149 / down e)

-- how many of the smallest lie between the whole number n and a finite float
abbrev pub away : ℕ → Float → ℕ
away n x = nat_abs (steps x -ℤ pos (n * 2 ^ 149))

-- x is the f32 nearest to n
pub record Nearest (n : ℕ) (x : Float) : Type 0 where
  pub is_finite : T (finite x)
  -- "nearest": no f32 is nearer
  pub none_nearer : (y : Float) → T (fits binary32 y) → T (finite y) → away n x ≤ away n y
  -- "ties to even": where another is as near, x is the one with the even last digit
  pub even : (y : Float) → T (fits binary32 y) → T (finite y) → away n y ≡ away n x → (y ≡ x) ⊎ (to_bits binary32 x % 2 ≡ 0)

-- the whole number that the float is: of n's binary digits the first 24 are kept, to the nearest, ties to even, and d are dropped
abbrev pub rounded : ℕ → ℕ
rounded n = let d = size n - 24 in closest n (2 ^ d) * 2 ^ d
