-- The words of a slice, and of the vector without ones. Assumes nothing.
use Rattle.std.proofs.Common.{◌≡◌, ℕ, ◌+◌, ◌-◌, ◌*◌, ◌≤◌, Bool, false, List, ◌++◌, ltb, drop, Ok, ⊎_elim, sym, ap, ◌∙◌, arith, lt-ltb, le-ltb}
use Rattle.std.specs.declared.ops.Bound.{Bound}
use mathlib.Core.Bool.{and-false}
use Rattle.places.specs.Below.{list_below}
use Rattle.places.proofs.Below.{list_same, length_below, le_or_lt}
use Rattle.refusal.specs.Answers.{Checked, Valid, Writes, written}
use Rattle.refusal.specs.Bounds.{start_of, end_of}
use Rattle.refusal.proofs.Spans.{Part}
use Rattle.refusal.proofs.Told.{done_writes}
use Rattle.bits.specs.Bits.{bit_at, cut, word_from, words_for, words_of}
use Rattle.bits.proofs.Bits.{word_same, word_clear}

pub words_none : (d : ℕ) → list_below (λ j. 0) (words_for d) ≡ words_of d (λ i. false)
words_none d =
    list_same (λ j. 0) (λ j. word_from (cut d (λ i. false)) (64 * j) 64) (words_for d)
    (λ j h. sym (word_clear (cut d (λ i. false)) (64 * j) 64 (λ k l. and-false (ltb (64 * j + k) d))))

-- the clear words that the loop wrote are those
pub none_writes : (d : ℕ) {n : ℕ} {due : Checked} {old left : List ℕ} → due ≡ Valid → n ≡ words_for d
    → left ≡ list_below (λ j. 0) n ++ drop n old → Writes due d (words_of d (λ i. false)) old (Ok (written d n)) left
none_writes d {n} {old = old} passed size front =
    done_writes d (words_of d (λ i. false)) passed
    (size ∙ sym (length_below _ (words_for d)))
    (front ∙ ap (λ (l : List ℕ). l ++ drop n old) (ap (list_below (λ j. 0)) size ∙ words_none d))

module _ (f : ℕ → Bool) (start end : ℕ) (rising : start ≤ end) where
  -- below the end, counted from the start
  cut_from : (i : ℕ) → cut end f (start + i) ≡ cut (end - start) (λ k. f (start + k)) i
  cut_from i =
      ⊎_elim
      (λ h. rw (le-ltb (start + i) end h, le-ltb i (end - start) (omega arith)))
      (λ h. rw (lt-ltb (start + i) end h, lt-ltb i (end - start) (omega arith)))
      (le_or_lt end (start + i))

  words_cut : list_below (λ j. word_from (cut end f) (start + 64 * j) 64) (words_for (end - start)) ≡ words_of (end - start) (λ i. f (start + i))
  words_cut =
      list_same
      (λ j. word_from (cut end f) (start + 64 * j) 64)
      (λ j. word_from (cut (end - start) (λ k. f (start + k))) (64 * j) 64)
      (words_for (end - start))
      (λ j h.
      word_same (cut end f) (cut (end - start) (λ k. f (start + k))) (start + 64 * j) (64 * j) 64
      (λ k l. let e : start + 64 * j + k ≡ start + (64 * j + k) = omega arith in rw e (cut_from (64 * j + k))))

-- the words that the loop wrote are the slice's
pub slice_writes : (from to : Bound ℕ) (d : ℕ) (ws : List ℕ) {start end n : ℕ} {due : Checked} {old left : List ℕ}
    → Part from to d start end → due ≡ Valid → n ≡ words_for (end - start)
    → left ≡ list_below (λ j. word_from (cut end (bit_at ws)) (start + 64 * j) 64) n ++ drop n old
    → Writes due (end_of d to - start_of from) (words_of (end_of d to - start_of from) (λ i. bit_at ws (start_of from + i))) old
    (Ok (written (end - start) n)) left
slice_writes from to d ws {start} {end} {n} {old = old} p passed size front =
    rw (← p.starts, ← p.ends)
    (done_writes (end - start) (words_of (end - start) (λ i. bit_at ws (start + i))) passed
    (size ∙ sym (length_below _ (words_for (end - start))))
    (front ∙ ap (λ (l : List ℕ). l ++ drop n old)
    (ap (list_below (λ j. word_from (cut end (bit_at ws)) (start + 64 * j) 64)) size
    ∙ words_cut (bit_at ws) start end (omega (arith, p.rising)))))
