-- What an exported call gives is decided: two outcomes of it, from the same arguments, are equal. Each promise that an exported call cites is
-- one of the three below, or of a call on a state (exports_states/proofs/Only). Assumes nothing.
use Rattle.std.proofs.Common.{◌≡◌, ℕ, List, Result, sym, ap, ◌∙◌}
use lib.Ieee.{Float}
use Rattle.refusal.specs.Answers.{Checked, Says, Answers, Writes}
use Rattle.refusal.specs.declared.Refusal.{Refusal}
use Rattle.refusal.specs.declared.Written.{Written}
use Rattle.refusal.proofs.Only.{one_answer, one_output}
use Rattle.sparse.specs.Calls.{WritesPair}
use Rattle.sparse.specs.Vectors.{Vector}
use Rattle.sparse.proofs.Writes.{one_writes}
use Rattle.exports_answers.specs.Answers.{Tells}

-- where answers that keep the promise are equal, so is what is given
pub one_told : {A B : Type 0} {tells_of : A → B} {Keeps Keeps' : A → Type 0} {given given' : B}
    → ((x y : A) → Keeps x → Keeps' y → x ≡ y) → Tells tells_of Keeps given → Tells tells_of Keeps' given' → given ≡ given'
one_told {tells_of = tells_of} only p q =
    sym p.same ∙ ap tells_of (only p.answer q.answer p.kept q.kept) ∙ q.same

module _ {A B : Type 0} {tells_of : Result A Refusal → B} {given given' : B} {due : Checked} {x : A} {says_of : Result A Refusal → Says} where
  -- an answer alone
  pub answer_decided : {vs : List ℕ} {fs : List Float} → Tells tells_of (Answers says_of vs fs x due) given
      → Tells tells_of (Answers says_of vs fs x due) given' → given ≡ given'
  answer_decided p q = one_told (λ r s. one_answer) p q

  -- and what is left in a pair of lists
  pub pair_decided : {numbers : List ℕ} {v : Vector} {oi li mi : List ℕ} {ov lv mv : List Float}
      → Tells tells_of (λ r. WritesPair says_of numbers x due v oi ov r li lv) given
      → Tells tells_of (λ r. WritesPair says_of numbers x due v oi ov r mi mv) given' → (given ≡ given') × (li ≡ mi) × (lv ≡ mv)
  pair_decided p q =
      let o = one_writes p.kept q.kept in
      (one_told (λ r s k l. (one_writes k l).0) p q, o.1, o.2)

-- in a list of words
pub words_decided : {B : Type 0} {tells_of : Result Written Refusal → B} {given given' : B} {due : Checked} {d : ℕ} {new old left rest : List ℕ}
    → Tells tells_of (λ r. Writes due d new old r left) given → Tells tells_of (λ r. Writes due d new old r rest) given'
    → (given ≡ given') × (left ≡ rest)
words_decided p q = (one_told (λ r s k l. (one_output k l).0) p q, (one_output p.kept q.kept).1)
