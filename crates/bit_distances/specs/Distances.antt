-- Document 01, "Bit distances", with request #106. A count is at most 65,535, so its float is that number exactly.
use Rattle.std.specs.Prelude.{ℕ, cond, List, eqb, pos, Float}
use Rattle.std.specs.Float.{binary32}
use Rattle.std.specs.Float.Ieee.{of_int, neg, sub, div}
use Rattle.places.specs.Below.{count_below}
use Rattle.bit_words.specs.Ops.{meets}
use Rattle.bit_words.specs.declared.Op.{Op}
use Rattle.bit_words.specs.declared.Op.TheVariants.{And, Or, Xor}

-- the f32 number of the ones of two vectors put together
abbrev pub ones_as_float : Op → ℕ → List ℕ → List ℕ → Float
ones_as_float op d a b = of_int binary32 (pos (count_below (meets op a b) d))

-- "Dot is the negated f32 number of common ones."
abbrev pub dot_of : ℕ → List ℕ → List ℕ → Float
dot_of d a b = neg (ones_as_float And d a b)

-- "Hamming is the number of differing bits."
abbrev pub hamming_of : ℕ → List ℕ → List ℕ → Float
hamming_of d a b = ones_as_float Xor d a b

-- "Jaccard is 1.0 - (and / or), counts as f32, each step rounded once; two all-zero vectors give NaN." This is the Rust's rule.
-- Request #106: "a second call keeps the old answer"
abbrev pub jaccard_or_nan_of : ℕ → List ℕ → List ℕ → Float
jaccard_or_nan_of d a b = sub binary32 (of_int binary32 (pos 1)) (div binary32 (ones_as_float And d a b) (ones_as_float Or d a b))

-- Request #106: "By default two all-zero bit vectors now give 0.0." Two are all-zero where their OR has no ones; all others give what they gave
abbrev pub jaccard_of : ℕ → List ℕ → List ℕ → Float
jaccard_of d a b = cond (eqb (count_below (meets Or a b) d) 0) (of_int binary32 (pos 0)) (jaccard_or_nan_of d a b)
