-- The bits of two words put together, and the ones of a word. Assumes nothing.
use Rattle.std.proofs.Common.{◌≡◌, ℕ, zero, suc, ◌+◌, ◌/◌, ◌%◌, ◌^◌, ◌<◌, eqb, refl, sym, ap, ◌∙◌, arith}
use lib.Arith.{lt-one}
use lib.Bits.{and_shr, or_shr, xor_shr, and_mod, or_mod, xor_mod, and_lt, or_lt, xor_lt}
use lib.Count.{ones, ones_step}
use Rattle.places.specs.Below.{one, count_below}
use Rattle.places.proofs.Below.{count_first, count_same}
use Rattle.bits.specs.Bits.{bit_of}
use Rattle.bits.proofs.Bits.{one_bit, bit_zero, bit_suc, half_lt}
use Rattle.bit_words.specs.Ops.{both, join}
use Rattle.bit_words.specs.declared.Op.{Op}
use Rattle.bit_words.specs.declared.Op.TheVariants.{And, Or, Xor}

join_shr : (op : Op) (x y k : ℕ) → join op x y / 2 ^ k ≡ join op (x / 2 ^ k) (y / 2 ^ k)
join_shr And x y k = and_shr x y k
join_shr Or x y k = or_shr x y k
join_shr Xor x y k = xor_shr x y k

join_mod : (op : Op) (x y : ℕ) → join op x y % 2 ≡ join op (x % 2) (y % 2)
join_mod And x y = and_mod x y 1
join_mod Or x y = or_mod x y 1
join_mod Xor x y = xor_mod x y 1

pub join_lt : (op : Op) (k x y : ℕ) → x < 2 ^ k → y < 2 ^ k → join op x y < 2 ^ k
join_lt And k x y = and_lt k x y
join_lt Or k x y = or_lt k x y
join_lt Xor k x y = xor_lt k x y

join_bits : (op : Op) (x y : ℕ) → x < 2 → y < 2 → eqb (join op x y) 1 ≡ both op (eqb x 1) (eqb y 1)
join_bits op (suc (suc x)) y hx hy = absurd (omega arith)
join_bits op zero (suc (suc y)) hx hy = absurd (omega arith)
join_bits op (suc zero) (suc (suc y)) hx hy = absurd (omega arith)
join_bits And zero zero hx hy = refl
join_bits And zero (suc zero) hx hy = refl
join_bits And (suc zero) zero hx hy = refl
join_bits And (suc zero) (suc zero) hx hy = refl
join_bits Or zero zero hx hy = refl
join_bits Or zero (suc zero) hx hy = refl
join_bits Or (suc zero) zero hx hy = refl
join_bits Or (suc zero) (suc zero) hx hy = refl
join_bits Xor zero zero hx hy = refl
join_bits Xor zero (suc zero) hx hy = refl
join_bits Xor (suc zero) zero hx hy = refl
join_bits Xor (suc zero) (suc zero) hx hy = refl

pub bit_join : (op : Op) (x y k : ℕ) → bit_of (join op x y) k ≡ both op (bit_of x k) (bit_of y k)
unfolding bit_of
bit_join op x y k =
    ap (λ (n : ℕ). eqb (n % 2) 1) (join_shr op x y k)
    ∙ ap (λ (n : ℕ). eqb n 1) (join_mod op (x / 2 ^ k) (y / 2 ^ k))
    ∙ join_bits op (x / 2 ^ k % 2) (y / 2 ^ k % 2) (omega arith) (omega arith)

-- a word's ones are its set bits
pub ones_count : (k w : ℕ) → w < 2 ^ k → ones w ≡ count_below (bit_of w) k
unfolding count_below ones
ones_count zero w h = ap ones (lt-one h)
ones_count (suc k) w h =
    let low : one (bit_of w 0) ≡ w % 2 = ap one (bit_zero w) ∙ one_bit (w % 2) (omega arith) in
    let rest : ones (w / 2) ≡ count_below (λ i. bit_of w (1 + i)) k =
    ones_count k (w / 2) (half_lt w k h) ∙ count_same (bit_of (w / 2)) (λ i. bit_of w (1 + i)) k (λ i l. sym (bit_suc w i)) in
    omega (arith, ones_step w, low, rest, count_first (bit_of w) k)
