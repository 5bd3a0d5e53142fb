-- Of the two calls of Jaccard one answers NaN for two vectors without ones and for no others, the other never. Assumes nothing.
use Rattle.std.proofs.Common.{◌≡◌, ℕ, zero, suc, ◌+◌, ◌≤◌, Bool, true, false, cond, ◌&&◌, ◌||◌, eqb, List, pos, Float, Result, Ok, refl, sym, ◌∙◌, arith}
use lib.Dec.{eqb-suc-zero}
use lib.Ieee.{binary32, of_int, sub, div, is_nan}
use Rattle.places.specs.Below.{one, count_below}
use Rattle.places.proofs.Below.{count_most, count_fewer, count_either}
use Rattle.whole.proofs.Holds.{holds_of_int}
use Rattle.whole.proofs.Nan.{div_number, sub_number}
use Rattle.refusal.specs.declared.Refusal.{Refusal}
use Rattle.refusal.proofs.Told.{value_told}
use Rattle.bits.specs.Bits.{bit_at}
use Rattle.bits.specs.Vectors.{BitVector}
use Rattle.bits.specs.Calls.{pair_of}
use Rattle.bits.proofs.Pairs.{pair_sound}
use Rattle.bit_words.specs.Ops.{meets}
use Rattle.bit_words.specs.declared.Op.TheVariants.{And, Or}
use Rattle.bit_distances.specs.Distances.{jaccard_of, jaccard_or_nan_of}
use Rattle.bit_distances.specs.Calls.{Jaccards, JaccardsOrNan}

-- 1 less the quotient of two numbers
abbrev less : ℕ → ℕ → Float
less m n = sub binary32 (of_int binary32 (pos 1)) (div binary32 (of_int binary32 (pos m)) (of_int binary32 (pos n)))

less_nan : is_nan (less 0 0) ≡ true
unfolding of_int div sub is_nan
less_nan = refl

-- it is NaN exactly if the second is 0, where the first is then 0 too
by_numbers : (m n : ℕ) → m ≤ n → n ≤ 65535 → is_nan (less m n) ≡ eqb n 0
by_numbers zero zero l h = less_nan
by_numbers (suc m) zero l h = absurd (omega arith)
by_numbers m (suc n) l h =
    rw (eqb-suc-zero n)
    (sub_number binary32 _ (holds_of_int binary32 (pos 1) (omega arith))
    (div_number binary32 (holds_of_int binary32 (pos m) (omega arith)) (holds_of_int binary32 (pos (suc n)) (omega arith)) (omega arith)))

-- what both have, either has; what the left has, either has, and so for the right; what either has, the left has or the right
both_fewer : (x y : Bool) → one (x && y) ≤ one (x || y)
both_fewer true true = omega arith
both_fewer true false = omega arith
both_fewer false y = omega arith

left_fewer : (x y : Bool) → one x ≤ one (x || y)
left_fewer true y = omega arith
left_fewer false y = omega arith

right_fewer : (x y : Bool) → one y ≤ one (x || y)
right_fewer true true = omega arith
right_fewer true false = omega arith
right_fewer false y = omega arith

either_most : (x y : Bool) → one (x || y) ≤ one x + one y
either_most true y = omega arith
either_most false y = omega arith

-- a number that is at least each of two others, and at most their sum, is 0 exactly if both are
both_zero : (n p q : ℕ) → p ≤ n → q ≤ n → n ≤ p + q → eqb n 0 ≡ (eqb p 0 && eqb q 0)
both_zero zero zero zero l r s = refl
both_zero zero (suc p) q l r s = absurd (omega arith)
both_zero zero zero (suc q) l r s = absurd (omega arith)
both_zero (suc n) zero zero l r s = absurd (omega arith)
both_zero (suc n) zero (suc q) l r s = rw (eqb-suc-zero n, eqb-suc-zero q)
both_zero (suc n) (suc p) q l r s = rw (eqb-suc-zero n, eqb-suc-zero p)

-- the vector has no ones
abbrev pub bare : ℕ → List ℕ → Bool
bare d a = eqb (count_below (bit_at a) d) 0

-- so the OR of two vectors has no ones exactly if neither has
pub or_bare : (d : ℕ) (a b : List ℕ) → eqb (count_below (meets Or a b) d) 0 ≡ (bare d a && bare d b)
or_bare d a b =
    both_zero _ _ _
    (count_fewer (bit_at a) (meets Or a b) d (λ i. left_fewer (bit_at a i) (bit_at b i)))
    (count_fewer (bit_at b) (meets Or a b) d (λ i. right_fewer (bit_at a i) (bit_at b i)))
    (count_either (meets Or a b) (bit_at a) (bit_at b) d (λ i. either_most (bit_at a i) (bit_at b i)))

-- Jaccard of two vectors is NaN exactly if their OR has no ones
by_ones : (d : ℕ) (a b : List ℕ) → d ≤ 65535 → is_nan (jaccard_or_nan_of d a b) ≡ eqb (count_below (meets Or a b) d) 0
by_ones d a b h =
    by_numbers _ _ (count_fewer (meets And a b) (meets Or a b) d (λ i. both_fewer (bit_at a i) (bit_at b i)))
    (omega (arith, count_most (meets Or a b) d))

module _ (a b : BitVector) {r : Result Float Refusal} {x : Float} (told : r ≡ Ok x) where
  -- what `operator_jaccard_or_nan` answers is NaN exactly if neither vector has a one
  pub nan_exactly : JaccardsOrNan a b r → is_nan x ≡ (bare a.dims a.words && bare a.dims b.words)
  nan_exactly s =
      let k = value_told (jaccard_or_nan_of a.dims a.words b.words) x (pair_of a b) (sym s.answer ∙ told) in
      rw (k.1, ← or_bare a.dims a.words b.words) (by_ones a.dims a.words b.words (pair_sound a b k.0).left.high)

  -- what `operator_jaccard` answers never is
  pub never_nan : Jaccards a b r → is_nan x ≡ false
  unfolding is_nan of_int
  never_nan s =
      let k = value_told (jaccard_of a.dims a.words b.words) x (pair_of a b) (sym s.answer ∙ told) in
      rw k.1 (go (eqb (count_below (meets Or a.words b.words) a.dims) 0) (by_ones a.dims a.words b.words (pair_sound a b k.0).left.high))
    where
      go : (p : Bool) → is_nan (jaccard_or_nan_of a.dims a.words b.words) ≡ p
          → is_nan (cond p (of_int binary32 (pos 0)) (jaccard_or_nan_of a.dims a.words b.words)) ≡ false
      go true e = refl
      go false e = e
