-- A line that is there has its newline, and is not too long: what finding the newline says of it. Assumes nothing.
use Rattle.std.proofs.Common.{◌≡◌, ℕ, ◌+◌, ◌-◌, ◌≤◌, ◌<◌, true, false, eqb, ltb, List, Some, None, length, take, drop, length-drop, position, add-one, arith}
use mathlib.Core.Bool.{and-false}
use lib.Seq.{take_all}
use borrow.Author.Tests.{lt-ltb, le-ltb, ltb-true}
use Rattle.places.proofs.Below.{and_true}
use Rattle.finding.specs.Finding.{index_of}
use Rattle.finding.proofs.Parts.{found, missing}
use Rattle.reading.specs.Starts.{has_line}
use Rattle.reading.specs.Parts.{IsFirst}

pub line_found : (s : List ℕ) → has_line s ≡ true → (index_of 10 s < length s) × (index_of 10 s < 4096)
line_found s e =
    let both = and_true (ltb (index_of 10 s) (length s)) (ltb (index_of 10 s) 4096) e in
    (ltb-true (index_of 10 s) (length s) both.0, ltb-true (index_of 10 s) 4096 both.1)

module _ (s : List ℕ) where
  pub no_newline : position (λ x. eqb x 10) s ≡ None → has_line s ≡ false
  no_newline e = rw (le-ltb (index_of 10 s) (length s) (omega (arith, missing 10 s e)))

  -- the first newline is at k
  module _ {k : ℕ} (newline : position (λ x. eqb x 10) s ≡ Some k) where
    pub near : k < 4096 → IsFirst s (take k s) (take (length s - (k + 1)) (drop (k + 1) s))
    near h =
        let at = found 10 s newline in
        record {
          has = rw (← at.0, lt-ltb k (length s) at.1, lt-ltb k 4096 h);
          line = rw (← at.0);
          follows = rw (take_all (length s - (k + 1)) (drop (k + 1) s) (omega (arith, length-drop (k + 1) s)), add-one, at.0);
        }

    pub far : 4096 ≤ k → has_line s ≡ false
    far h = rw (← (found 10 s newline).0, le-ltb k 4096 h, and-false)
