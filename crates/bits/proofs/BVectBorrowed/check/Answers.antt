-- `BVectBorrowed::check` meets its contract: dims, then the number of words, then the last word, whose bits from dims on are the padding.
-- Assumes nothing.
use Rattle.std.proofs.Common.{◌≡◌, ◌≤◌, length, sym, ◌∙◌, arith}
use Rattle.refusal.proofs.Dims.{some, zero_outside, high_outside}
use Rattle.refusal.proofs.Told.{checked_answer}
use Rattle.bits.specs.Bits.{words_for}
use Rattle.bits.proofs.Checks.{refused_dims, refused_length, last_refused, last_valid}
use Rattle.bits.proofs.BVectBorrowed.check.Goals as goal
use Rattle.bits.proofs.BVectBorrowed.check.Goals.{Else-self-words_for}

-- where the number of words passed, dims did
low : (c : Else-self-words_for) → 1 ≤ c.args.self.dims
low c = some _ c.if-self-eq0.false

long : (c : Else-self-words_for) → let v = c.args.self in length v.data.now ≡ words_for v.dims
long c = c.if-self-words_for.false ∙ c.words_for.ensures

pub returns-then-self-eq0 : goal.returns-then-self-eq0
returns-then-self-eq0 c = checked_answer (sym (refused_dims _ (zero_outside 65535 _ c.if-self-eq0.true)))

pub returns-then-self-gt65535 : goal.returns-then-self-gt65535
returns-then-self-gt65535 c = checked_answer (sym (refused_dims _ (high_outside 65535 c.args.self.dims (omega arith))))

pub returns-then-self-words_for : goal.returns-then-self-words_for
returns-then-self-words_for c = let n = c.words_for.ensures in
    checked_answer (sym (refused_length _ (some _ c.if-self-eq0.false) (omega arith) (λ e. c.if-self-words_for.true (e ∙ sym n))))

pub returns-then-word-used-ne0 : goal.returns-then-word-used-ne0
returns-then-word-used-ne0 c = let t = (goal.at.returns-then-word-used-ne0 c).Else-self-words_for in
    checked_answer (sym (last_refused _ (low t) (omega arith) (long t) (omega arith) (omega arith) c.if-word-used-ne0.true))

pub returns-else-word-used-ne0 : goal.returns-else-word-used-ne0
returns-else-word-used-ne0 c = let t = (goal.at.returns-else-word-used-ne0 c).Else-self-words_for in
    checked_answer (sym (last_valid _ (low t) (omega arith) (long t) (λ p. c.if-word-used-ne0.false)))

pub returns-else-used-ne0 : goal.returns-else-used-ne0
returns-else-used-ne0 c = let t = (goal.at.returns-else-used-ne0 c).Else-self-words_for in
    checked_answer (sym (last_valid _ (low t) (omega arith) (long t) (λ p. absurd (omega arith))))
