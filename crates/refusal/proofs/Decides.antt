-- What an answer says decides which answer it is: it can be read back from what it says, since no refusal has the number 0, which is done.
-- So `told` of a promise decides the answer by itself (`told_decides`). Assumes nothing.
use Rattle.std.proofs.Common.{◌≡◌, ℕ, Bool, true, false, cond, eqb, List, [], ◌∷◌, Float, Option, Some, None, Result, Ok, Err, get_or, refl, sym, ap, ◌∙◌}
use Rattle.std.specs.Float.{nan}
use Rattle.std.specs.declared.cmp.Ordering.{Ordering}
use Rattle.std.specs.declared.cmp.Ordering.TheVariants.{Less, Equal, Greater}
use Rattle.refusal.specs.Answers.{Checked, Says, refused, tells, Answers, checked_says, distance_says, written, written_says, merged_says, asked_says, order_says}
use Rattle.refusal.specs.declared.Refusal.{Refusal}
use Rattle.refusal.specs.declared.Refusal.TheVariants.{Dims, Length, Order, Index, Zero, Padding, Differ, Bounds, Room, Need, Count, NotBegun, State, NotNeeded}
use Rattle.refusal.specs.declared.Written.{Written}
use Rattle.refusal.specs.declared.Merged.{Merged}

-- answers that can be read back and say the same are the same
pub decided : {A : Type 0} (says_of : A → Says) (back : Says → A) → ((r : A) → back (says_of r) ≡ r) → (r s : A) → says_of r ≡ says_of s → r ≡ s
decided says_of back fair r s e = sym (fair r) ∙ ap back e ∙ fair s

-- and so an answer that says what a promise says is the promised one
pub told_decides : {A : Type 0} {says_of : Result A Refusal → Says} {vs : List ℕ} {fs : List Float} {x : A} {due : Checked} {r s : Result A Refusal}
    → Answers says_of vs fs x due r → (says_of s ≡ says_of r → s ≡ r) → says_of s ≡ tells vs fs due → s ≡ r
told_decides a one e = one (e ∙ sym a.told)

-- the refusal that has this number and this place
abbrev pub refusal : ℕ → ℕ → Refusal
refusal n p =
    cond (eqb n 1) Dims
    (cond (eqb n 2) Length
    (cond (eqb n 3) (Order p)
    (cond (eqb n 4) (Index p)
    (cond (eqb n 5) (Zero p)
    (cond (eqb n 6) (Padding p)
    (cond (eqb n 7) Differ
    (cond (eqb n 8) Bounds
    (cond (eqb n 9) (Room p)
    (cond (eqb n 10) (Need p)
    (cond (eqb n 11) Count
    (cond (eqb n 12) NotBegun
    (cond (eqb n 13) State
    NotNeeded))))))))))))

-- done, or the refusal that is said
abbrev pub done_or : {A : Type 0} → (Says → A) → Says → Result A Refusal
done_or done s = cond (eqb s.number 0) (Ok (done s)) (Err (refusal s.number s.place))

-- a refusal is read back, whatever is said beside it
pub refused_back : {A : Type 0} (done : Says → A) (r : Refusal) (vs : List ℕ) → done_or done (refused r vs) ≡ Err r
refused_back done Dims vs = refl
refused_back done Length vs = refl
refused_back done (Order p) vs = refl
refused_back done (Index p) vs = refl
refused_back done (Zero p) vs = refl
refused_back done (Padding p) vs = refl
refused_back done Differ vs = refl
refused_back done Bounds vs = refl
refused_back done (Room n) vs = refl
refused_back done (Need n) vs = refl
refused_back done Count vs = refl
refused_back done NotBegun vs = refl
refused_back done State vs = refl
refused_back done NotNeeded vs = refl

-- ---- each kind of answer

pub checked_decided : (r s : Checked) → checked_says r ≡ checked_says s → r ≡ s
checked_decided = decided checked_says (done_or (λ s. tt)) fair
  where
    fair : (r : Checked) → done_or (λ s. tt) (checked_says r) ≡ r
    fair (Ok tt) = refl
    fair (Err r) = refused_back (λ s. tt) r []

abbrev float : Says → Float
float s = get_or s.floats 0 nan

pub distance_decided : (r s : Result Float Refusal) → distance_says r ≡ distance_says s → r ≡ s
distance_decided = decided distance_says (done_or float) fair
  where
    fair : (r : Result Float Refusal) → done_or float (distance_says r) ≡ r
    fair (Ok x) = refl
    fair (Err r) = refused_back float r []

abbrev value : Says → ℕ → ℕ
value s k = get_or s.values k 0

abbrev wrote : Says → Written
wrote s = written (value s 0) (value s 1)

pub written_decided : (r s : Result Written Refusal) → written_says r ≡ written_says s → r ≡ s
written_decided = decided written_says (done_or wrote) fair
  where
    fair : (r : Result Written Refusal) → done_or wrote (written_says r) ≡ r
    fair (Ok w) = refl
    fair (Err r) = refused_back wrote r (0 ∷ 0 ∷ [])

abbrev joined : Says → Merged
joined s = record { dims = value s 0; len = value s 1; turns = value s 2 }

pub merged_decided : (r s : Result Merged Refusal) → merged_says r ≡ merged_says s → r ≡ s
merged_decided = decided merged_says (done_or joined) fair
  where
    fair : (r : Result Merged Refusal) → done_or joined (merged_says r) ≡ r
    fair (Ok m) = refl
    fair (Err r) = refused_back joined r (0 ∷ 0 ∷ 0 ∷ [])

abbrev yes : Says → Bool
yes s = eqb (value s 0) 1

pub asked_decided : (r s : Result Bool Refusal) → asked_says r ≡ asked_says s → r ≡ s
asked_decided = decided asked_says (done_or yes) fair
  where
    fair : (r : Result Bool Refusal) → done_or yes (asked_says r) ≡ r
    fair (Ok true) = refl
    fair (Ok false) = refl
    fair (Err r) = refused_back yes r (0 ∷ [])

abbrev order : Says → Option Ordering
order s = let v : ℕ = value s 0 in cond (eqb v 1) (Some Less) (cond (eqb v 2) (Some Equal) (cond (eqb v 3) (Some Greater) None))

pub order_decided : (r s : Result (Option Ordering) Refusal) → order_says r ≡ order_says s → r ≡ s
order_decided = decided order_says (done_or order) fair
  where
    fair : (r : Result (Option Ordering) Refusal) → done_or order (order_says r) ≡ r
    fair (Ok (Some Less)) = refl
    fair (Ok (Some Equal)) = refl
    fair (Ok (Some Greater)) = refl
    fair (Ok None) = refl
    fair (Err r) = refused_back order r (0 ∷ [])
