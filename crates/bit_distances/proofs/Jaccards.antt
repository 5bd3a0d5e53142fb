-- What the numbers of ones tell of Jaccard, whether two vectors without ones are alike or not. Assumes nothing.
use Rattle.std.proofs.Common.{◌≡◌, ℕ, Bool, true, false, cond, eqb, ◌⊎◌, inl, inr, Ok, pos, Float, refl, true≢false}
use lib.Ieee.{binary32, of_bits, of_int, sub, div}
use Rattle.refusal.proofs.Told.{distance_answer}
use Rattle.bits.specs.Vectors.{BitVector}
use Rattle.bit_words.specs.declared.Two.{Two}
use Rattle.bit.specs.Calls.{SumsBoth}
use Rattle.bit_distances.specs.Calls.{JaccardsIf}
use Rattle.bit_distances.proofs.Counts.{both_counted}

-- the code's 0.0 and 1.0
zero_float : of_bits binary32 0 ≡ of_int binary32 (pos 0)
unfolding of_bits of_int
zero_float = refl

one_float : of_bits binary32 1065353216 ≡ of_int binary32 (pos 1)
unfolding of_bits of_int
one_float = refl

-- where there are ones, or vectors without any are not alike, the old answer stays
stays : (alike : Bool) (n : ℕ) (x y : Float) → (eqb n 0 ≡ false) ⊎ (alike ≡ false) → cond alike (cond (eqb n 0) x y) y ≡ y
stays false n x y h = refl
stays true n x y (inl h) = rw h
stays true n x y (inr h) = absurd (true≢false h)

module _ (alike : Bool) (a b : BitVector) {t : Two} (s : SumsBoth a b (Ok t)) where
  -- what is answered for two vectors without ones, where such are alike
  pub without_ones : alike ≡ true → eqb t.or 0 ≡ true → JaccardsIf alike a b (Ok (of_bits binary32 0))
  without_ones h z =
      let k = both_counted a b s in
      distance_answer _ (rw (k.0, h, ← k.2, z, zero_float))

  -- and for all others
  pub by_counts : (eqb t.or 0 ≡ false) ⊎ (alike ≡ false)
      → JaccardsIf alike a b (Ok (sub binary32 (of_bits binary32 1065353216) (div binary32 (of_int binary32 (pos t.and)) (of_int binary32 (pos t.or)))))
  by_counts h =
      let k = both_counted a b s in
      distance_answer _ (rw (k.0, ← k.1, ← k.2, stays alike t.or _ _ h, one_float))
