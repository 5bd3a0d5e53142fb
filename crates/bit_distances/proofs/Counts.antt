-- What a count tells a distance: the tests passed, and the number is the count, small enough for a float to hold it. Assumes nothing.
use Rattle.std.proofs.Common.{◌≡◌, ℕ, ◌≤◌, Ok, T, pos, sym, ap, arith}
use lib.Ieee.{binary32, in_float}
use Rattle.places.specs.Below.{count_below}
use Rattle.places.proofs.Below.{count_most}
use Rattle.whole.proofs.Numbers.{in_float_lem}
use Rattle.refusal.specs.Answers.{Valid}
use Rattle.refusal.proofs.Told.{value_told}
use Rattle.bits.specs.Vectors.{BitVector}
use Rattle.bits.specs.Calls.{pair_of}
use Rattle.bits.proofs.Pairs.{pair_sound}
use Rattle.bit_words.specs.Ops.{meets}
use Rattle.bit_words.specs.declared.Op.{Op}
use Rattle.bit_words.specs.declared.Op.TheVariants.{And, Or}
use Rattle.bit_words.specs.declared.Two.{Two}
use Rattle.bit.specs.Calls.{Sums, SumsBoth, two}

module _ (a b : BitVector) where
  -- how many places two vectors put together have
  abbrev pub ones : Op → ℕ
  ones op = count_below (meets op a.words b.words) a.dims

  -- a count of bits is a float exactly
  pub count_float : (op : Op) → pair_of a b ≡ Valid → T (in_float binary32 (pos (ones op)))
  count_float op passed =
      let h : ones op ≤ 16777216 = omega (arith, count_most (meets op a.words b.words) a.dims, (pair_sound a b passed).left.high) in
      in_float_lem binary32 (pos (ones op)) h

  module _ (op : Op) {n : ℕ} (s : Sums op a b (Ok n)) where
    pub counted : (pair_of a b ≡ Valid) × (n ≡ ones op)
    counted = value_told (ones op) n (pair_of a b) (sym s.answer)

    -- and a float exactly
    pub counted_float : T (in_float binary32 (pos n))
    counted_float = rw counted.1 (count_float op counted.0)

  module _ {t : Two} (s : SumsBoth a b (Ok t)) where
    pub both_counted : (pair_of a b ≡ Valid) × (t.and ≡ ones And) × (t.or ≡ ones Or)
    both_counted =
        let k = value_told (two (ones And) (ones Or)) t (pair_of a b) (sym s.answer) in
        (k.0, ap (λ (x : Two). x.and) k.1, ap (λ (x : Two). x.or) k.1)

    -- and floats exactly
    pub both_float : T (in_float binary32 (pos t.and)) × T (in_float binary32 (pos t.or))
    both_float = (rw both_counted.1 (count_float And both_counted.0), rw both_counted.2 (count_float Or both_counted.0))
