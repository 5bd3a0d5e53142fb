-- A chain of tests that finds nothing: each test of it failed. Assumes nothing.
use Rattle.std.proofs.Common.{◌≡◌, ℕ, Bool, true, false, not, eqb, Ok, Err, refl, eqb-true}
use borrow.Author.Tests.{not-false}
use Rattle.refusal.specs.Answers.{Checked, Valid, refuse, next}
use Rattle.refusal.specs.declared.Refusal.{Refusal}
use Rattle.refusal.specs.declared.Refusal.TheVariants.{Differ}

pub next_valid : (first later : Checked) → next first later ≡ Valid → (first ≡ Valid) × (later ≡ Valid)
next_valid (Ok tt) later e = (refl, e)
next_valid (Err r) later e = absurd (cc)

pub refuse_valid : (test : Bool) (r : Refusal) (later : Checked) → refuse test r later ≡ Valid → (test ≡ false) × (later ≡ Valid)
refuse_valid true r later e = absurd (cc)
refuse_valid false r later e = (refl, e)

-- the last test of two vectors: their dims are equal
pub differ_valid : (first : Checked) (d e : ℕ) → next first (refuse (not (eqb d e)) Differ Valid) ≡ Valid → (first ≡ Valid) × (d ≡ e)
differ_valid first d e passed =
    let v = next_valid first (refuse (not (eqb d e)) Differ Valid) passed in
    (v.0, eqb-true d e (not-false (eqb d e) (refuse_valid (not (eqb d e)) Differ Valid v.1).0))
