-- `bit_distances::jaccard` meets its contract: both counts are floats exactly, the two steps are the definition's,
-- and two vectors without ones are answered before them only where such are alike. Assumes nothing.
use Rattle.std.proofs.Common.{⊎_elim, inl, inr, eq-eqb, ne_eqb}
use Rattle.bit_distances.proofs.Counts.{both_float}
use Rattle.bit_distances.proofs.Jaccards.{without_ones, by_counts}
use Rattle.bit_distances.proofs.jaccard.Goals as goal

pub returns-then-or-eq0 : goal.returns-then-or-eq0
returns-then-or-eq0 c = without_ones _ _ _ c.in_ok-and.ensures c.if-alike.true (eq-eqb _ _ c.if-or-eq0.true)

pub int_to_float-common : goal.int_to_float-common
int_to_float-common c = (both_float _ _ c.in_ok-and.ensures).0

pub int_to_float-all : goal.int_to_float-all
int_to_float-all c = (both_float _ _ c.in_ok-and.ensures).1

pub returns : goal.returns
returns c = by_counts _ _ _ c.in_ok-and.ensures (⊎_elim (λ w. inl (ne_eqb _ _ w.1)) inr c.else-alike.either)
