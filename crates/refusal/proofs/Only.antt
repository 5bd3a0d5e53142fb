-- A promise of `Answers` or `Writes` can be kept in one way only: two outcomes that both keep it are equal. Assumes nothing.
use Rattle.std.proofs.Common.{◌≡◌, ℕ, List, Float, Result, sym, ◌∙◌}
use Rattle.refusal.specs.Answers.{Checked, Says, Answers, Writes}
use Rattle.refusal.specs.declared.Refusal.{Refusal}
use Rattle.refusal.specs.declared.Written.{Written}

pub one_answer : {A : Type 0} {says_of : Result A Refusal → Says} {vs : List ℕ} {fs : List Float} {x : A} {due : Checked} {r s : Result A Refusal}
    → Answers says_of vs fs x due r → Answers says_of vs fs x due s → r ≡ s
one_answer p q = p.answer ∙ sym q.answer

pub one_output : {due : Checked} {d : ℕ} {new old : List ℕ} {r s : Result Written Refusal} {left rest : List ℕ}
    → Writes due d new old r left → Writes due d new old s rest → (r ≡ s) × (left ≡ rest)
one_output p q = (one_answer p.answer q.answer, p.output ∙ sym q.output)
