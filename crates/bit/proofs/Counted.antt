-- A count that is the due one says the number and place of what the tests found, and what a count says decides it. Assumes nothing.
use Rattle.std.proofs.Common.{◌≡◌, ℕ, [], ◌∷◌, Result, Ok, Err, get_or, refl}
use Rattle.refusal.specs.Answers.{Checked, Says, tells, answer}
use Rattle.refusal.specs.declared.Refusal.{Refusal}
use Rattle.refusal.proofs.Told.{answered}
use Rattle.refusal.proofs.Decides.{decided, refused_back, done_or}
use Rattle.bit_words.specs.declared.Two.{Two}
use Rattle.bit.specs.Calls.{count_says, counts_says, two, Tallies, TalliesBoth}

count_fair : (n : ℕ) (due : Checked) → count_says (answer n due) ≡ tells (n ∷ []) [] due
count_fair n (Ok tt) = refl
count_fair n (Err r) = refl

pub count_answer : (n : ℕ) {due : Checked} {r : Result ℕ Refusal} → r ≡ answer n due → Tallies n due r
count_answer n e = answered count_says (n ∷ []) [] n (count_fair n) e

counts_fair : (m n : ℕ) (due : Checked) → counts_says (answer (two m n) due) ≡ tells (m ∷ n ∷ []) [] due
counts_fair m n (Ok tt) = refl
counts_fair m n (Err r) = refl

pub counts_answer : (m n : ℕ) {due : Checked} {r : Result Two Refusal} → r ≡ answer (two m n) due → TalliesBoth m n due r
counts_answer m n e = answered counts_says (m ∷ n ∷ []) [] (two m n) (counts_fair m n) e

-- ---- what a count says decides it

abbrev count : Says → ℕ
count s = get_or s.values 0 0

pub count_decided : (r s : Result ℕ Refusal) → count_says r ≡ count_says s → r ≡ s
count_decided = decided count_says (done_or count) fair
  where
    fair : (r : Result ℕ Refusal) → done_or count (count_says r) ≡ r
    fair (Ok n) = refl
    fair (Err r) = refused_back count r (0 ∷ [])

abbrev counts : Says → Two
counts s = two (get_or s.values 0 0) (get_or s.values 1 0)

pub counts_decided : (r s : Result Two Refusal) → counts_says r ≡ counts_says s → r ≡ s
counts_decided = decided counts_says (done_or counts) fair
  where
    fair : (r : Result Two Refusal) → done_or counts (counts_says r) ≡ r
    fair (Ok t) = refl
    fair (Err r) = refused_back counts r (0 ∷ 0 ∷ [])
