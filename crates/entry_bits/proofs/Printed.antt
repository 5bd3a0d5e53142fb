-- The entry that a search finds. And the list of bits to print, entry by entry: how long it is, and what stands at each place. Assumes
-- nothing.
use Prim.Native.Nat.{ℕ, zero, suc, ◌<◌}
use native.Mathlib.Omega.{arith}
use mathlib.Core.List.{List, [], ◌∷◌}
use mathlib.Core.Path.{◌≡◌, refl, ap}
use lib.ListN.{length, get_or}
use lib.Ieee.{Float, nan}
use Rattle.std.specs.Prelude.{Some, None, position}
use lib.Dec.{eqb}
use mathlib.Core.Bool.{cond}
use borrow.Author.Tests.{lt-ltb, le-ltb}
use Rattle.finding.proofs.Parts.{found, missing}
use Rattle.merges.specs.declared.Op.{Op}
use Rattle.entry_bits.specs.Operands.{Operand}
use Rattle.entry_bits.specs.Operands.{has, bits_at, shown_at, shown}

module _ (op : Op) (a b : Operand) where
  pub shown_length : (is : List ℕ) (vs : List Float) → length is ≡ length vs → length (shown op a b is vs) ≡ length is
  unfolding shown
  shown_length [] vs h = refl
  shown_length (i ∷ is) [] h = absurd (omega arith)
  shown_length (i ∷ is) (v ∷ vs) h = ap suc (shown_length is vs (omega arith))

  pub shown_get_d : (is : List ℕ) (vs : List Float) (j : ℕ) → j < length is → length is ≡ length vs
      → shown_at op a b (get_or is j 0) (get_or vs j nan) ≡ get_or (shown op a b is vs) j 0
  unfolding shown
  shown_get_d [] vs j l h = absurd (omega arith)
  shown_get_d (i ∷ is) [] j l h = absurd (omega arith)
  shown_get_d (i ∷ is) (v ∷ vs) zero l h = refl
  shown_get_d (i ∷ is) (v ∷ vs) (suc j) l h = shown_get_d is vs j (omega arith) (omega arith)

-- ---- the entry at an index

module _ (a : Operand) (k : ℕ) where
  -- none was found
  pub no_entry : position (λ x. eqb x k) a.indexes ≡ None → cond (has a k) (Some (bits_at a k)) None ≡ None
  no_entry e = rw (missing k a.indexes e, le-ltb (length a.indexes) (length a.indexes) (omega arith))

  -- it was found at i
  pub an_entry : {i : ℕ} → position (λ x. eqb x k) a.indexes ≡ Some i → cond (has a k) (Some (bits_at a k)) None ≡ Some (get_or a.bits i 0)
  an_entry {i} e =
      let at = found k a.indexes e in
      rw (← at.0, lt-ltb i (length a.indexes) at.1)
