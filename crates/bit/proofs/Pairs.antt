-- Two vectors that passed, put together: what their words have is what their bits have. Assumes nothing.
use Rattle.std.proofs.Common.{◌≡◌, ℕ, ◌+◌, ◌*◌, ◌^◌, ◌≤◌, ◌<◌, false, List, ◌++◌, length, get_or, ⊎_elim, refl, sym, ap, ◌∙◌, arith, lt-ltb, le-ltb}
use Rattle.std.proofs.Math.ListN.{get_or-append}
use mathlib.Core.Bool.{and_self}
use Rattle.places.specs.Below.{count_below, list_below}
use Rattle.places.proofs.Below.{count_rest, count_same, list_same, length_below, at_below, le_or_lt}
use Rattle.bits.specs.Bits.{bit_at, cut, word_from, words_of}
use Rattle.bits.specs.Vectors.{BitVector}
use Rattle.bits.proofs.Bits.{word_is}
use Rattle.bits.proofs.Pairs.{Pair}
use Rattle.bit_words.specs.Ops.{both, meets, join}
use Rattle.bit_words.specs.Words.{ones_of, joins}
use Rattle.bit_words.specs.declared.Op.{Op}
use Rattle.bit_words.specs.declared.Op.TheVariants.{And, Or, Xor}
use Rattle.bit_words.proofs.Ones.{meets_at}

both_clear : (op : Op) → both op false false ≡ false
both_clear And = refl
both_clear Or = refl
both_clear Xor = refl

module _ (op : Op) {a b : BitVector} (p : Pair a b) where
  meets_clear : (i : ℕ) → a.dims ≤ i → meets op a.words b.words i ≡ false
  meets_clear i h = rw (p.left.clear i h, p.right.clear i h) (both_clear op)

  -- nothing is counted in the padding
  pub ones_dims : ones_of op a.words b.words ≡ count_below (meets op a.words b.words) a.dims
  ones_dims =
      count_rest (meets op a.words b.words) a.dims (64 * length a.words) (omega (arith, p.left.long)) (λ i h l. meets_clear i h)

  cut_meets : (i : ℕ) → cut a.dims (meets op a.words b.words) i ≡ meets op a.words b.words i
  cut_meets i = ⊎_elim (λ h. rw (le-ltb i a.dims h) (sym (meets_clear i h))) (λ h. rw (lt-ltb i a.dims h)) (le_or_lt a.dims i)

  -- the words put together are those of the bits put together; that they are words is known of the output that they stand in, before
  -- what is left of it
  joins_lt : (rest : List ℕ) → ((j : ℕ) → get_or (joins op a.words b.words ++ rest) j 0 < 2 ^ 64) → (j : ℕ) → j < length a.words
      → join op (get_or a.words j 0) (get_or b.words j 0) < 2 ^ 64
  joins_lt rest fits j l =
      let f : ℕ → ℕ = λ i. join op (get_or a.words i 0) (get_or b.words i 0) in
      let e = get_or-append (list_below f (length a.words)) rest 0 j (rw length_below l) ∙ at_below f (length a.words) j 0 l in
      rw e at (fits j)

  pub joins_words : (rest : List ℕ) → ((j : ℕ) → get_or (joins op a.words b.words ++ rest) j 0 < 2 ^ 64)
      → joins op a.words b.words ≡ words_of a.dims (meets op a.words b.words)
  joins_words rest fits =
      list_same (λ j. join op (get_or a.words j 0) (get_or b.words j 0)) (λ j. word_from (cut a.dims (meets op a.words b.words)) (64 * j) 64) (length a.words)
      (λ j l.
      word_is (cut a.dims (meets op a.words b.words)) 64 (64 * j) (join op (get_or a.words j 0) (get_or b.words j 0)) (joins_lt rest fits j l)
      (λ k h. sym (meets_at op a.words b.words j k h) ∙ sym (cut_meets (64 * j + k))))
      ∙ ap (list_below (λ j. word_from (cut a.dims (meets op a.words b.words)) (64 * j) 64)) p.left.long

-- the ones of a vector are those of it AND itself
pub ones_self : (d : ℕ) (a : List ℕ) → count_below (meets And a a) d ≡ count_below (bit_at a) d
ones_self d a = count_same (meets And a a) (bit_at a) d (λ i h. and_self (bit_at a i))
