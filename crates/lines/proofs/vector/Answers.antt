-- The line is cut at its spaces: the first two words, and each one more of those after them.
use Rattle.std.proofs.Common.{◌≡◌, [], ◌∷◌, ◌+◌, eqb, true, false, length, length-append, drop, rules, tests, refl, sym, ◌∙◌, arith}
use Rattle.std.proofs.lemmas.Iterator.Splits.{YieldsList-from_slice_split}
use Rattle.std.specs.Str.{bytes_eq}
use Rattle.lines.specs.Lines.{words, line_of}
use Rattle.lines.proofs.Words.{two_words, one_taken, one_more, no_more, no_dims, no_mark, listed, line_listed}
use Rattle.lines.proofs.Progress.{too_many, no_entry, entry_read, ended}
use Rattle.lines.proofs.vector.Goals as goal
use Rattle.lines.proofs.vector.Goals.{In_ok-next-2, In_ok-dims, In-Some, In-None}

-- the first two words
first : (c : In_ok-next-2) → let s = c.args.s.now in
    words s ≡ c.in_ok-next.field-0.now ∷ c.in_ok-next-2.field-0.now ∷ drop 1 (drop 1 (words s))
first c =
    two_words (YieldsList-from_slice_split _ (λ b. eqb b 32) c.args.s.now c.split-words.ensures.rest c.split-words.ensures.done c.split-words.ensures.closure (λ x b q k. search (rules, tests)))
    c.next.ensures.steps c.in_ok-next.was c.next-2.ensures.steps c.in_ok-next-2.was

-- what the line means is what the words after them do
after : (c : In_ok-dims) → line_of c.args.s.now ≡ listed c.in_ok-dims.dims (drop 1 (drop 1 (words c.args.s.now)))
after c =
    let mark : bytes_eq c.in_ok-next.field-0.now (118 ∷ []) ≡ true = search (rules, tests) in
    line_listed c.args.s.now _ _ _ (first (goal.at.In_ok-dims c).In_ok-next-2) mark (sym c.decimal.ensures ∙ c.in_ok-dims.was)

-- one more word was given
word : (c : In-Some) → let ws = drop 1 (drop 1 (words c.args.s.now)) in
    let n = length c.loop-word.yielded in
    drop n ws ≡ c.in-Some.word.now ∷ drop (n + 1) ws
word c =
    one_more (YieldsList-from_slice_split _ (λ b. eqb b 32) c.args.s.now c.split-words.ensures.rest c.split-words.ensures.done c.split-words.ensures.closure (λ x b q k. search (rules, tests)))
    c.next.ensures.steps c.in_ok-next.was c.next-2.ensures.steps c.in_ok-next-2.was _ c.into_iter-word-iterator.ensures.into_iter_gives c.loop-word.yielded_by c.next-in-loop-word.ensures.steps c.in-Some.is

pub returns-then-ne : goal.returns-then-ne
returns-then-ne c =
    let one = one_taken (YieldsList-from_slice_split _ (λ b. eqb b 32) c.args.s.now c.split-words.ensures.rest c.split-words.ensures.done c.split-words.ensures.closure (λ x b q k. search (rules, tests))) c.next.ensures.steps c.in_ok-next.was in
    let other : bytes_eq c.in_ok-next.field-0.now (118 ∷ []) ≡ false = search (rules, tests) in
    rw (one.0, no_mark _ _ other) refl

pub returns-in_err-dims : goal.returns-in_err-dims
returns-in_err-dims c = rw (first (goal.at.returns-in_err-dims c).In_ok-next-2, no_dims _ _ _ (sym c.decimal.ensures ∙ c.in_err-dims.was)) c.from_residual-in_err-dims.ensures

pub returns-then-len-eq-MOST : goal.returns-then-len-eq-MOST
returns-then-len-eq-MOST c =
    rw (after (goal.at.returns-then-len-eq-MOST c).In_ok-dims, too_many _ _ _ _ _ _ _ _ _ (rw (word (goal.at.returns-then-len-eq-MOST c).In-Some) at c.loop-word.invariant) c.if-len-eq-MOST.true) refl

pub returns-in_err-entry : goal.returns-in_err-entry
returns-in_err-entry c =
    rw (after (goal.at.returns-in_err-entry c).In_ok-dims, no_entry _ _ _ _ _ _ _ _ _ (rw (word (goal.at.returns-in_err-entry c).In-Some) at c.loop-word.invariant) (sym c.entry.ensures ∙ c.in_err-entry.was)) c.from_residual-in_err-entry.ensures

pub loop-word-preserved : goal.loop-word-preserved
loop-word-preserved c =
    let one = length-append c.loop-word.yielded (c.in-Some.word ∷ []) in
    let p = rw (word (goal.at.loop-word-preserved c).In-Some) at c.loop-word.invariant in
    rw one (entry_read _ _ _ _ _ _ _ _ _ p _ _ (sym c.entry.ensures ∙ c.in_ok-entry.was) (omega arith) (omega arith) (omega arith))

pub returns : goal.returns
returns c =
    let none = no_more (YieldsList-from_slice_split _ (λ b. eqb b 32) c.args.s.now c.split-words.ensures.rest c.split-words.ensures.done c.split-words.ensures.closure (λ x b q k. search (rules, tests)))
    c.next.ensures.steps c.in_ok-next.was c.next-2.ensures.steps c.in_ok-next-2.was _ c.into_iter-word-iterator.ensures.into_iter_gives c.loop-word.yielded_by c.next-in-loop-word.ensures.steps c.in-None.is in
    rw (after (goal.at.returns c).In_ok-dims) (ended _ _ _ _ refl refl (rw none at c.loop-word.invariant) (omega arith) (omega arith))
