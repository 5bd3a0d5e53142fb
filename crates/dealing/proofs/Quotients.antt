-- A whole number that is not 0, divided by a count of any u64, rounded to the nearest float, is not dropped from an average. Assumes nothing.
use Prim.Native.Nat.{ℕ, ◌^◌, ◌≤◌, ◌<◌}
use native.Mathlib.Nat.{le_trans}
use native.Mathlib.Omega.{arith}
use mathlib.Core.Bool.{Bool, true, false, cond}
use mathlib.Core.Path.{◌≡◌, refl}
use lib.Dec.{eqb, lit≤}
use lib.IntN.{ℤ, nat_abs}
use lib.Ieee.{binary32}
use borrow.Author.Tests.{eqb-false}
use Rattle.whole.proofs.Holds.{holds_of_int}
use Rattle.whole.proofs.Numbers.{zero32}
use Rattle.whole.proofs.Quotients.{div_nonzero}
use Rattle.rounding.proofs.Nearest.{of_holds, rounded_some, rounded_most}
use Rattle.sparse.specs.Cells.{is_zero}
use Rattle.sparse.specs.declared.Cell.TheVariants.{Empty, Full}
use Rattle.averages.specs.Averages.{over}
use Rattle.headers.specs.Headers.{most_rows}
use Rattle.dealing.specs.Totals.{entry, total, share}

-- such a quotient is no zero
pub share_some : (z : ℤ) (n : ℕ) → 0 < nat_abs z → nat_abs z ≤ 16777216 → 1 ≤ n → n ≤ most_rows → is_zero (share n z) ≡ false
share_some z n some hz lo hi =
    let l : n < 2 ^ 64 = omega arith in
    rw zero32 (div_nonzero binary32 (holds_of_int binary32 z hz) (of_holds n l) some (rounded_some n lo) (le_trans (rounded_most n l) (lit≤ tt)))

-- so an entry over a count is the entry of the quotient
pub over_entry : (z : ℤ) (n : ℕ) → nat_abs z ≤ 16777216 → 1 ≤ n → n ≤ most_rows → over n (entry total z) ≡ entry (share n) z
over_entry z n hz lo hi = go (eqb (nat_abs z) 0) refl
  where
    go : (b : Bool) → eqb (nat_abs z) 0 ≡ b → over n (cond b Empty (Full (total z))) ≡ cond b Empty (Full (share n z))
    go true e = refl
    go false e = rw (share_some z n (omega (arith, eqb-false)) hz lo hi)
