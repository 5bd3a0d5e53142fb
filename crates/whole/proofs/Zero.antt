-- A zero in a sum: -0 that is added and +0 that is taken away leave every float as it is, and a float that is taken away from +0 has the
-- square that it had. Assumes nothing.
use Prim.Native.Nat.{ℕ, zero, suc, ◌+◌, ◌-◌, ◌*◌, ◌/◌, ◌%◌, ◌^◌, ◌≤◌, ◌<◌, zero-le}
use native.Mathlib.Nat.{add-zero, zero-add, sub-zero, mul-one, one-mul, zero-mul, mul_assoc, mul_comm, mul_right_comm}
use native.Mathlib.Nat.{mul-lt-mul_of_pos_right, lt_of_mul-lt-mul_right, le_antisymm, le_of_eq, lt_of_not-le, not-le_of_lt}
use native.Mathlib.Nat.{lt_of_lt_of_le, lt_of_le_of_lt}
use native.Mathlib.Omega.{arith}
use mathlib.Core.Bool.{Bool, true, false, not, ◌&&◌}
use mathlib.Core.Path.{◌≡◌, refl, sym, ap, ◌∙◌}
use lib.Dec.{T, ltb, leb, eqb, ltb→lt, leb→le}
use lib.IntN.{ℤ, pos, negsuc}
use lib.Pow.{pow-add, pow_pos, pow-lt}
use lib.Ieee.{Float, nan, inf, fin, Format, prec, emax, low, up, down, round, sum, add, sub, mul, neg, fits, to_bits, of_bits}
use lib.Ieee.Fits.{and_l, and_r, down_pos, round-fits}
use lib.Ieee.Exact.{HasValue, round_exact}
use lib.Ieee.Nearest.{div_same}
use lib.Ieee.Order.{transfer}
use lib.Ieee.Digits.{back}
use lib.Ieee.Bits.{of_bits-to_bits}
use borrow.Author.Tests.{lt-ltb, le-ltb}

-- ---- a float and what it is rounded to

-- the pattern goes by the sign and the size
same_bits : (f : Format) (s : Bool) (m : ℕ) (e : ℤ) (n : ℕ) (d : ℤ) → m * up e * 2 ^ low f / down e ≡ n * up d * 2 ^ low f / down d
    → to_bits f (fin s m e) ≡ to_bits f (fin s n d)
unfolding to_bits
same_bits f s m e n d h = rw h

-- so floats of one format with one sign and one size are one
pub one_of_value : (f : Format) (x y : Float) (s : Bool) (a c : ℕ) → 0 < c → T (fits f x) → T (fits f y)
    → HasValue x s a c → HasValue y s a c → x ≡ y
one_of_value f nan y s a c C p q v w = elim v [ ]
one_of_value f (inf _) y s a c C p q v w = elim v [ ]
one_of_value f (fin t m e) nan s a c C p q v w = elim w [ ]
one_of_value f (fin t m e) (inf _) s a c C p q v w = elim w [ ]
one_of_value f (fin t m e) (fin u n d) s a c C p q v w =
    let same : m * up e * down d ≡ n * up d * down e =
    le_antisymm (transfer (m * up e) (n * up d) (down e) (down d) a a c c C C v.1 w.1 (le_of_eq refl))
    (transfer (n * up d) (m * up e) (down d) (down e) a a c c C C w.1 v.1 (le_of_eq refl)) in
    let whole : m * up e * 2 ^ low f / down e ≡ n * up d * 2 ^ low f / down d =
    div_same (m * up e * 2 ^ low f) (down e) (n * up d * 2 ^ low f) (down d) (down_pos e) (down_pos d)
    (mul_right_comm (m * up e) (2 ^ low f) (down d) ∙ ap (λ (z : ℕ). z * 2 ^ low f) same ∙ mul_right_comm (n * up d) (down e) (2 ^ low f)) in
    sym (of_bits-to_bits f (fin t m e) p)
    ∙ ap (λ (b : Bool). of_bits f (to_bits f (fin b m e))) (v.0 ∙ sym w.0)
    ∙ ap (of_bits f) (same_bits f u m e n d whole)
    ∙ of_bits-to_bits f (fin u n d) q

wider : (l k : ℕ) → l ≤ k → l < suc k
wider l k h = omega arith

-- 2 ^ e is a whole number of units of the smallest value: 2 ^ j
shift : (f : Format) (e : ℤ) → down e ≤ 2 ^ low f → (j : ℕ) × (up e * 2 ^ low f ≡ 2 ^ j * down e)
shift f (pos k) h = (k + low f, sym (pow-add 2 k (low f)) ∙ sym (mul-one (2 ^ (k + low f))))
shift f (negsuc k) h =
    let less : suc k ≤ low f = lt_of_not-le (λ (g : low f ≤ k). not-le_of_lt (pow-lt (wider (low f) k g)) h) in
    (low f - suc k, one-mul (2 ^ low f) ∙ ap (λ (x : ℕ). 2 ^ x) (sym (back (low f) (suc k) less)) ∙ pow-add 2 (low f - suc k) (suc k))

-- a float of the format is rounded to itself
pub round_own : (f : Format) (s : Bool) (m : ℕ) (e : ℤ) → T (fits f (fin s m e)) → round f s (m * up e) (down e) ≡ fin s m e
unfolding fits
round_own f s m e t =
    one_of_value f (round f s (m * up e) (down e)) (fin s m e) s (m * up e) (down e) (down_pos e) (round-fits f s (m * up e) (down e)) t
    (go m t) (refl, refl)
  where
    go : (m : ℕ) → T (fits f (fin s m e)) → HasValue (round f s (m * up e) (down e)) s (m * up e) (down e)
    go zero t = round_exact f s (0 * up e) (down e) 0 0 (down_pos e) (pow_pos (prec f)) (pow_pos (low f + suc (emax f))) (simp zero-mul)
    go (suc m) t =
        let a : Bool = eqb (suc m % 2) 1 in
        let b : Bool = ltb (suc m) (2 ^ prec f) in
        let c : Bool = leb (down e) (2 ^ low f) in
        let d : Bool = ltb (suc m * up e) (2 ^ suc (emax f) * down e) in
        let abc = and_l (a && b && c) d t in
        let k = shift f e (leb→le (down e) (2 ^ low f) (and_r (a && b) c abc)) in
        let small = ltb→lt (suc m) (2 ^ prec f) (and_r a b (and_l (a && b) c abc)) in
        let under = ltb→lt (suc m * up e) (2 ^ suc (emax f) * down e) (and_r (a && b && c) d t) in
        let j = k.0 in
        let is : suc m * up e * 2 ^ low f ≡ suc m * 2 ^ j * down e =
        mul_assoc (suc m) (up e) (2 ^ low f) ∙ ap (λ (z : ℕ). suc m * z) k.1 ∙ sym (mul_assoc (suc m) (2 ^ j) (down e)) in
        let fine : suc m * 2 ^ j < 2 ^ (low f + suc (emax f)) =
        lt_of_mul-lt-mul_right (down e)
        (lt_of_lt_of_le (lt_of_le_of_lt (le_of_eq (sym is)) (mul-lt-mul_of_pos_right under (pow_pos (low f))))
        (le_of_eq
        (mul_right_comm (2 ^ suc (emax f)) (down e) (2 ^ low f)
        ∙ ap (λ (z : ℕ). z * down e) (mul_comm (2 ^ suc (emax f)) (2 ^ low f) ∙ sym (pow-add 2 (low f) (suc (emax f))))))) in
        round_exact f s (suc m * up e) (down e) (suc m) j (down_pos e) small fine is

-- ---- a zero in a sum

-- -0 on the right, and +0 on the left
sum_right : (f : Format) (s : Bool) (a c : ℕ) → sum f s a true 0 c ≡ round f s a c
unfolding sum
sum_right f true a c = rw add-zero
sum_right f false a c = rw (le-ltb a 0 zero-le, sub-zero)

sum_left : (f : Format) (t : Bool) (b c : ℕ) → sum f false 0 t b c ≡ round f (t && ltb 0 b) b c
unfolding sum
sum_left f false b c = rw zero-add
sum_left f true zero c = refl
sum_left f true (suc b) c = rw (lt-ltb 0 (suc b) (omega arith), sub-zero)

-- as fractions
add_is : (f : Format) (s : Bool) (m : ℕ) (e : ℤ) (t : Bool) (n : ℕ) (d : ℤ)
    → add f (fin s m e) (fin t n d) ≡ sum f s (m * up e * down d) t (n * up d * down e) (down e * down d)
unfolding add
add_is f s m e t n d = refl

-- a float and -0
pub add_none : (f : Format) (x : Float) → T (fits f x) → add f x (fin true 0 (pos 0)) ≡ x
add_none f nan t = unfold add in refl
add_none f (inf s) t = unfold add in refl
add_none f (fin s m e) t =
    rw (add_is f s m e true 0 (pos 0)) (simp (mul-one, zero-mul) (sum_right f s (m * up e) (down e) ∙ round_own f s m e t))

-- a float without +0
pub sub_none : (f : Format) (x : Float) → T (fits f x) → sub f x (fin false 0 (pos 0)) ≡ x
unfolding sub neg
sub_none f x t = add_none f x t

-- a float of the other sign fits too
either_fits : (f : Format) (s t : Bool) (m : ℕ) (e : ℤ) → T (fits f (fin s m e)) → T (fits f (fin t m e))
unfolding fits
either_fits f s t zero e h = h
either_fits f s t (suc m) e h = h

minus_is : (f : Format) (t : Bool) (n : ℕ) (d : ℤ)
    → sub f (fin false 0 (pos 0)) (fin t n d) ≡ sum f false (0 * up (pos 0) * down d) (not t) (n * up d * down (pos 0)) (down (pos 0) * down d)
unfolding sub neg
minus_is f t n d = add_is f false 0 (pos 0) (not t) n d

-- the square of a float, whatever its sign
square_signed : (f : Format) (s t : Bool) (m : ℕ) (e : ℤ) → mul f (fin s m e) (fin s m e) ≡ mul f (fin t m e) (fin t m e)
unfolding mul
square_signed f true true m e = refl
square_signed f true false m e = refl
square_signed f false true m e = refl
square_signed f false false m e = refl

-- a float taken away from +0 has its square
pub square_of_minus : (f : Format) (y : Float) → T (fits f y)
    → let d = sub f (fin false 0 (pos 0)) y in mul f d d ≡ mul f y y
square_of_minus f nan h = unfold sub add neg in refl
square_of_minus f (inf true) h = unfold sub add neg mul in refl
square_of_minus f (inf false) h = unfold sub add neg mul in refl
square_of_minus f (fin t n d) h =
    let s = not t && ltb 0 (n * up d) in
    let e : sub f (fin false 0 (pos 0)) (fin t n d) ≡ fin s n d =
    minus_is f t n d
    ∙ simp (mul-one, one-mul, zero-mul) (sum_left f (not t) (n * up d) (down d) ∙ round_own f s n d (either_fits f t s n d h)) in
    rw e (square_signed f s t n d)
