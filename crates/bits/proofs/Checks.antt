-- What a check answers, and what is known of a vector that passed. Assumes nothing.
use Rattle.std.proofs.Common.{◌≡◌, ℕ, ◌-◌, ◌/◌, ◌%◌, ◌^◌, ◌≤◌, ◌<◌, Bool, true, false, not, Err, eqb, length, get_or, refl, eq-eqb, ne_eqb, eqb-true}
use borrow.Author.Tests.{not-false}
use Rattle.refusal.specs.Answers.{Valid}
use Rattle.refusal.specs.declared.Refusal.TheVariants.{Dims, Length, Padding}
use Rattle.refusal.proofs.Chains.{refuse_valid}
use Rattle.refusal.proofs.Dims.{in_range, range_in}
use Rattle.bits.specs.Bits.{bit_at, words_for}
use Rattle.bits.specs.Vectors.{BitVector}
use Rattle.bits.specs.Calls.{bad_dims, padded, checked_of}
use Rattle.bits.proofs.Vectors.{clear_padded, padded_clear, last_clear, clear_last}

-- what a vector that passed is
pub record Sound (v : BitVector) : Type 0 where
  pub low : 1 ≤ v.dims
  pub high : v.dims ≤ 65535
  pub long : length v.words ≡ words_for v.dims
  pub clear : (i : ℕ) → v.dims ≤ i → bit_at v.words i ≡ false

module _ (v : BitVector) where
  pub refused_dims : bad_dims v.dims ≡ true → checked_of v ≡ Err Dims
  unfolding checked_of
  refused_dims bad = rw bad

  pub refused_length : 1 ≤ v.dims → v.dims ≤ 65535 → (length v.words ≡ words_for v.dims → ⊥) → checked_of v ≡ Err Length
  unfolding checked_of
  refused_length l h other = rw (in_range 65535 v.dims l h, ne_eqb (length v.words) (words_for v.dims) other)

  pub refused_padding : 1 ≤ v.dims → v.dims ≤ 65535 → length v.words ≡ words_for v.dims → padded v.dims v.words ≡ true
      → checked_of v ≡ Err (Padding (length v.words - 1))
  unfolding checked_of
  refused_padding l h e p = rw (in_range 65535 v.dims l h, eq-eqb (length v.words) (words_for v.dims) e, p)

  pub valid : Sound v → checked_of v ≡ Valid
  unfolding checked_of
  valid s =
      rw (
        in_range 65535 v.dims s.low s.high,
        eq-eqb (length v.words) (words_for v.dims) s.long,
        clear_padded v.dims v.words (record { clear = s.clear }),
      )

  pub sound : checked_of v ≡ Valid → Sound v
  unfolding checked_of
  sound passed =
      let a = refuse_valid (bad_dims v.dims) Dims _ passed in
      let b = refuse_valid (not (eqb (length v.words) (words_for v.dims))) Length _ a.1 in
      let c = refuse_valid (padded v.dims v.words) _ _ b.1 in
      let r = range_in 65535 v.dims a.0 in
      record {
        low = r.0;
        high = r.1;
        long = eqb-true (length v.words) (words_for v.dims) (not-false (eqb (length v.words) (words_for v.dims)) b.0);
        clear = (padded_clear v.dims v.words c.0).clear;
      }

  -- the test of the last word decides the padding
  module _ (l : 1 ≤ v.dims) (h : v.dims ≤ 65535) (e : length v.words ≡ words_for v.dims) where
    pub last_refused : get_or v.words (length v.words - 1) 0 < 2 ^ 64 → 0 < v.dims % 64
        → (get_or v.words (length v.words - 1) 0 / 2 ^ (v.dims % 64) ≡ 0 → ⊥) → checked_of v ≡ Err (Padding (length v.words - 1))
    last_refused fits part set = refused_padding l h e (go (padded v.dims v.words) refl)
      where
        go : (b : Bool) → padded v.dims v.words ≡ b → padded v.dims v.words ≡ true
        go true q = q
        go false q = absurd (set (clear_last v.dims v.words l e fits part (padded_clear v.dims v.words q)))

    pub last_valid : (0 < v.dims % 64 → get_or v.words (length v.words - 1) 0 / 2 ^ (v.dims % 64) ≡ 0) → checked_of v ≡ Valid
    last_valid zero = valid (record { low = l; high = h; long = e; clear = (last_clear v.dims v.words l e zero).clear })
