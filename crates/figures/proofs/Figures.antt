-- The figures of document 01 hold: each side of each line computes to the same. Assumes nothing.
use mathlib.Core.Path.{refl}
use lib.Ieee as Ieee
use Rattle.places.specs.Below.{count_below, any_below, list_below}
use Rattle.places.specs.Search.{first_from}
use Rattle.bits.specs.Bits.{bit_at, word_from}
use Rattle.bits.specs.Calls.{padded, checked_of as checked_bits}
use Rattle.sparse.specs.Cells.{look, indexes_below, values_below}
use Rattle.sparse.specs.Calls.{checked_of}
use Rattle.regions.specs.Capacity.{capacity_for}
use Rattle.aggregate_svecf32.specs.States.{consistent, state_of}
use Rattle.aggregate_svecf32.specs.Calls.{row_of}
use Rattle.figures.specs.Figures.{Figures}

pub figures : Figures
unfolding checked_of checked_bits padded bit_at word_from count_below any_below list_below first_from look indexes_below values_below capacity_for
    row_of state_of consistent Ieee.eq Ieee.lt Ieee.of_bits Ieee.of_int Ieee.neg Ieee.add Ieee.sub Ieee.mul Ieee.div
figures = record {
  P1 = refl;
  P1_turns = refl;
  P2 = refl;
  P3 = refl;
  P3_turns = refl;
  P4_none = λ is vs. refl;
  P4_many = λ is vs. refl;
  P4_most = refl;
  P5 = refl;
  P5_valid = refl;
  P6 = λ i x. record { answer = record { told = refl; answer = refl }; indexes = refl; values = refl };
  P7 = λ oi ov. record { answer = record { told = refl; answer = refl }; indexes = refl; values = refl };
  P8_and = refl;
  P8_or = refl;
  P8_xor = refl;
  P8_hamming = refl;
  P8_dot = refl;
  P8_jaccard = refl;
  P9_dot = refl;
  P9_jaccard = refl;
  P9_jaccard_or_nan = refl;
  P10 = record { told = refl; answer = refl };
  P10_words = record { told = refl; answer = refl };
  P11_0 = refl;
  P11_17 = refl;
  P11_1000 = refl;
  P11_small = refl;
  P12 = refl;
  P12_overlap = refl;
  P12_six = refl;
  P12_sum = refl;
  P13 = refl;
}
