use Rattle.std.proofs.Common.{◌≡◌, ℕ, ◌+◌, ◌*◌, ◌/◌, ◌%◌, ap, ◌∙◌, arith}
use Rattle.places.proofs.Below.{wrote_none, wrote_more}
use Rattle.bits.specs.Bits.{bit_at, word_from}
use Rattle.bit_slices.proofs.gather_whole.Goals as goal

pub loop-j-init : goal.loop-j-init
loop-j-init c = wrote_none

pub loop-j-preserved : goal.loop-j-preserved
loop-j-preserved c = let a = c.args in
    let l = c.loop-j in
    let e : 64 * (a.start / 64 + l.j) + a.start % 64 ≡ a.start + 64 * l.j = omega arith in
    wrote_more l.invariant (omega arith) (c.word_at.ensures ∙ ap (λ (p : ℕ). word_from (bit_at a.words.now) p 64) e)
