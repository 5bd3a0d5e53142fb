-- `bit_slices::gather_whole` meets its contract. The loop's invariant: the first j words are there, in front of what is left of the old
-- output. Assumes nothing.
use Rattle.std.proofs.Common.{◌+◌, ◌*◌}
use Rattle.places.proofs.Below.{Wrote}
use Rattle.bits.specs.Bits.{bit_at, word_from}
use Rattle.bit_slices.proofs.gather_whole.Given as goal

abbrev pub invariant-loop-j : goal.invariant-loop-j
invariant-loop-j l = Wrote (λ i. word_from (bit_at l.words) (l.start + 64 * i) 64) l.initial.out l.out l.j
