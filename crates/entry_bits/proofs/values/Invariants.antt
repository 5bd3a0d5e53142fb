-- `values` meets its contract. The loop's invariant: the first i values are written. Assumes nothing.
use Rattle.std.proofs.Common.{get_or}
use mathlib.Core.List.{map}
use lib.Ieee.{binary32, of_bits}
use Rattle.places.proofs.Below.{Wrote}
use Rattle.entry_bits.proofs.values.Given as goal

abbrev pub invariant-loop-i : goal.invariant-loop-i
invariant-loop-i l = Wrote (λ j. get_or (map (of_bits binary32) l.bits) j (of_bits binary32 0)) l.initial.out l.out l.i
