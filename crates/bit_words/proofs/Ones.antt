-- The ones of two lists of words put together, counted word by word. Assumes nothing.
use Rattle.std.proofs.Common.{◌≡◌, ℕ, ◌+◌, ◌*◌, ◌^◌, ◌≤◌, ◌<◌, List, get_or, refl, sym, ap, ap₂, ◌∙◌, arith}
use lib.Count.{ones}
use Rattle.places.specs.Below.{count_below}
use Rattle.places.proofs.Below.{count_add, count_same, count_most}
use Rattle.bits.specs.Bits.{bit_of}
use Rattle.bits.proofs.Vectors.{bit_at_lem}
use Rattle.bit_words.specs.Ops.{both, meets, join}
use Rattle.bit_words.specs.declared.Op.{Op}
use Rattle.bit_words.proofs.Joins.{bit_join, join_lt, ones_count}

pub meets_at : (op : Op) (a b : List ℕ) (j k : ℕ) → k < 64 → meets op a b (64 * j + k) ≡ bit_of (join op (get_or a j 0) (get_or b j 0)) k
meets_at op a b j k h = ap₂ (both op) (bit_at_lem a j k h) (bit_at_lem b j k h) ∙ sym (bit_join op (get_or a j 0) (get_or b j 0) k)

-- one word more adds its ones
pub count_word : (op : Op) (a b : List ℕ) (j : ℕ) → get_or a j 0 < 2 ^ 64 → get_or b j 0 < 2 ^ 64
    → count_below (meets op a b) (64 * (j + 1)) ≡ count_below (meets op a b) (64 * j) + ones (join op (get_or a j 0) (get_or b j 0))
count_word op a b j ha hb =
    let e : 64 * (j + 1) ≡ 64 * j + 64 = omega arith in
    let w = join op (get_or a j 0) (get_or b j 0) in
    ap (count_below (meets op a b)) e ∙ count_add (meets op a b) (64 * j) 64
    ∙ ap (λ (n : ℕ). count_below (meets op a b) (64 * j) + n)
    (count_same (λ i. meets op a b (64 * j + i)) (bit_of w) 64 (λ k h. meets_at op a b j k h)
    ∙ sym (ones_count 64 w (join_lt op 64 (get_or a j 0) (get_or b j 0) ha hb)))

-- n is the number of ones in the first j words put together, 64 places each
pub record FirstOnes (op : Op) (a b : List ℕ) (j n : ℕ) : Type 0 where
  pub count : n ≡ count_below (meets op a b) (64 * j)
  pub few : n ≤ 64 * j

pub ones_none : {op : Op} {a b : List ℕ} → FirstOnes op a b 0 0
unfolding count_below
ones_none = record { count = refl; few = omega arith }

-- one word more
pub ones_more : {op : Op} {a b : List ℕ} {j n w m : ℕ} → FirstOnes op a b j n → get_or a j 0 < 2 ^ 64 → get_or b j 0 < 2 ^ 64
    → w ≡ join op (get_or a j 0) (get_or b j 0) → m ≡ ones w → FirstOnes op a b (j + 1) (n + m)
ones_more {op} {a} {b} {j} {n} {w} {m} s ha hb e f =
    let c : n + m ≡ count_below (meets op a b) (64 * (j + 1)) = ap₂ ◌+◌ s.count (f ∙ ap ones e) ∙ sym (count_word op a b j ha hb) in
    record { count = c; few = omega (arith, count_most (meets op a b) (64 * (j + 1)), c) }
