-- An answer that is the due one says the number and place of what the tests found: one law for each kind of answer. Assumes nothing.
use Rattle.std.proofs.Common.{◌≡◌, ℕ, Bool, List, [], ◌∷◌, ◌++◌, Float, Option, Result, Ok, Err, length, drop, refl, sym, ap, ◌∙◌}
use Rattle.std.specs.declared.cmp.Ordering.{Ordering}
use Rattle.refusal.specs.Answers.{Checked, Valid, Says, tells, answer, Answers, Checks, Measures, Asks, Orders, Wrote, Writes, leaves, written}
use Rattle.refusal.specs.Answers.{checked_says, distance_says, written_says, merged_says, asked_says, yes_number, order_number, order_says}
use Rattle.refusal.specs.declared.Refusal.{Refusal}
use Rattle.refusal.specs.declared.Written.{Written}
use Rattle.refusal.specs.declared.Merged.{Merged}

-- any kind of answer whose refusals say what they were given
pub answered : {A : Type 0} (says_of : Result A Refusal → Says) (vs : List ℕ) (fs : List Float) (x : A)
    → ((due : Checked) → says_of (answer x due) ≡ tells vs fs due) → {due : Checked} {r : Result A Refusal} → r ≡ answer x due
    → Answers says_of vs fs x due r
answered says_of vs fs x fair {due} e = record { told = ap says_of e ∙ fair due; answer = e }

checked_fair : (due : Checked) → checked_says (answer tt due) ≡ tells [] [] due
checked_fair (Ok tt) = refl
checked_fair (Err r) = refl

-- a check answers what the tests found
answer_check : (due : Checked) → due ≡ answer tt due
answer_check (Ok tt) = refl
answer_check (Err r) = refl

pub checked_answer : {due r : Checked} → r ≡ due → Checks due r
checked_answer {due} e = answered checked_says [] [] tt checked_fair (e ∙ answer_check due)

pub checked_told : {due r : Checked} → Checks due r → r ≡ due
checked_told {due} c = c.answer ∙ sym (answer_check due)

distance_fair : (x : Float) (due : Checked) → distance_says (answer x due) ≡ tells [] (x ∷ []) due
distance_fair x (Ok tt) = refl
distance_fair x (Err r) = refl

pub distance_answer : (x : Float) {due : Checked} {r : Result Float Refusal} → r ≡ answer x due → Measures x due r
distance_answer x e = answered distance_says [] (x ∷ []) x (distance_fair x) e

-- and back: what an answer tells of the tests
pub value_told : {A : Type 0} (x y : A) (due : Checked) → answer x due ≡ Ok y → (due ≡ Valid) × (y ≡ x)
value_told x y (Ok tt) e = (refl, cc)
value_told x y (Err r) e = absurd cc

pub refusal_told : {A : Type 0} (x : A) (due : Checked) (r : Refusal) → answer x due ≡ Err r → due ≡ Err r
refusal_told x (Ok tt) r e = absurd cc
refusal_told x (Err s) r e = let f : s ≡ r = cc in ap Err f

written_fair : (d len : ℕ) (due : Checked) → written_says (answer (written d len) due) ≡ tells (d ∷ len ∷ []) [] due
written_fair d len (Ok tt) = refl
written_fair d len (Err r) = refl

pub written_answer : (d len : ℕ) {due : Checked} {r : Result Written Refusal} → r ≡ answer (written d len) due → Wrote d len due r
written_answer d len e = answered written_says (d ∷ len ∷ []) [] (written d len) (written_fair d len) e

merged_fair : (m : Merged) (due : Checked) → merged_says (answer m due) ≡ tells (m.dims ∷ m.len ∷ m.turns ∷ []) [] due
merged_fair m (Ok tt) = refl
merged_fair m (Err r) = refl

pub merged_answer : (m : Merged) {due : Checked} {r : Result Merged Refusal} → r ≡ answer m due
    → Answers merged_says (m.dims ∷ m.len ∷ m.turns ∷ []) [] m due r
merged_answer m e = answered merged_says (m.dims ∷ m.len ∷ m.turns ∷ []) [] m (merged_fair m) e

asked_fair : (b : Bool) (due : Checked) → asked_says (answer b due) ≡ tells (yes_number b ∷ []) [] due
asked_fair b (Ok tt) = refl
asked_fair b (Err r) = refl

pub asked_answer : (b : Bool) {due : Checked} {r : Result Bool Refusal} → r ≡ answer b due → Asks b due r
asked_answer b e = answered asked_says (yes_number b ∷ []) [] b (asked_fair b) e

order_fair : (o : Option Ordering) (due : Checked) → order_says (answer o due) ≡ tells (order_number o ∷ []) [] due
order_fair o (Ok tt) = refl
order_fair o (Err r) = refl

pub order_answer : (o : Option Ordering) {due : Checked} {r : Result (Option Ordering) Refusal} → r ≡ answer o due → Orders o due r
order_answer o e = answered order_says (order_number o ∷ []) [] o (order_fair o) e

-- ---- calls that write

pub refused_writes : (d : ℕ) (new : List ℕ) {due : Checked} {old : List ℕ} {r : Refusal} → due ≡ Err r → Writes due d new old (Err r) old
refused_writes d new {due} {old} e =
    record {
      answer = written_answer d (length new) (ap (answer (written d (length new))) (sym e));
      output = ap (λ (c : Checked). leaves c new old) (sym e);
    }

pub done_writes : (d : ℕ) (new : List ℕ) {due : Checked} {old left : List ℕ} {len : ℕ} → due ≡ Valid → len ≡ length new
    → left ≡ new ++ drop len old → Writes due d new old (Ok (written d len)) left
done_writes d new {due} {old} {left} e size front =
    record {
      answer = written_answer d (length new) (ap (λ (n : ℕ). Ok (written d n)) size ∙ ap (answer (written d (length new))) (sym e));
      output = front ∙ ap (λ (n : ℕ). new ++ drop n old) size ∙ ap (λ (c : Checked). leaves c new old) (sym e);
    }
