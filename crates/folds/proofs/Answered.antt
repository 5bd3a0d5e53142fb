-- What three sums answer, and that what they say decides them. Assumes nothing.
use Rattle.std.proofs.Common.{◌≡◌, [], Float, Result, Ok, Err, get_or, refl, sym, ap, ◌∙◌}
use Rattle.std.specs.Float.{nan}
use Rattle.refusal.specs.Answers.{Checked, Valid, Says, tells, answer, Answers, Checks, Measures}
use Rattle.refusal.specs.declared.Refusal.{Refusal}
use Rattle.refusal.proofs.Chains.{differ_valid}
use Rattle.refusal.proofs.Told.{answered, checked_told, distance_answer}
use Rattle.refusal.proofs.Decides.{checked_decided}
use Rattle.sparse.specs.Vectors.{Vector}
use Rattle.sparse.specs.Calls.{each_of, pair_of}
use Rattle.sparse.proofs.Checks.{each_sound}
use Rattle.sums.specs.Loops.{Ready}
use Rattle.folds.specs.Calls.{floats_of, summed_says}
use Rattle.sums.specs.declared.Three.{Three}

summed_fair : (t : Three) (due : Checked) → summed_says (answer t due) ≡ tells [] (floats_of t) due
summed_fair t (Ok tt) = refl
summed_fair t (Err r) = refl

pub summed_answer : (t : Three) {due : Checked} {r : Result Three Refusal} → r ≡ answer t due → Answers summed_says [] (floats_of t) t due r
summed_answer t e = answered summed_says [] (floats_of t) t (summed_fair t) e

-- ---- what three sums say decides them, as for a distance

abbrev three : Says → Result Three Refusal
three s = Ok (record { xy = get_or s.floats 0 nan; x2 = get_or s.floats 1 nan; y2 = get_or s.floats 2 nan })

pub summed_decided : (r s : Result Three Refusal) → summed_says r ≡ summed_says s → r ≡ s
summed_decided (Ok t) (Ok u) e = ap three e
summed_decided (Ok t) (Err r) e = let f : floats_of t ≡ [] = ap (λ (s : Says). s.floats) e in absurd cc
summed_decided (Err r) (Ok t) e = let f : [] ≡ floats_of t = ap (λ (s : Says). s.floats) e in absurd cc
summed_decided (Err r) (Err s) e =
    let f : ◌≡◌ {A = Checked} (Err r) (Err s) = checked_decided (Err r) (Err s) e in
    let same : r ≡ s = cc in ap Err same

-- ---- two vectors that passed

valid : {due r : Checked} → Checks due r → r ≡ Valid → due ≡ Valid
valid c e = sym (checked_told c) ∙ e

pub passed : {a b : Vector} {r : Checked} → Checks (pair_of a b) r → r ≡ Valid → Ready a b
passed {a} {b} c e =
    let v = differ_valid (each_of a b) a.dims b.dims (valid c e) in
    let s = each_sound a b v.0 in
    record { left = s.0; right = s.1; even = v.1 }

pub measured : {due r : Checked} → Checks due r → r ≡ Valid → {x y : Float} → y ≡ x → Measures x due (Ok y)
measured c e {x} same = distance_answer x (ap Ok same ∙ ap (answer x) (sym (valid c e)))
