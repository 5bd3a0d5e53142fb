-- Document 01, "Figures": each line in quotes, and under it the same in the definitions that the contracts cite. The list is one claim,
-- `Figures`, and proofs/Figures.antt proves it.
use Rattle.std.specs.Prelude.{ℕ, true, List, [], ◌∷◌, ◌≡◌, pos, length, replicate, Float, Some, Ok, Err}
use Rattle.std.specs.Float.{nan, binary32}
use Rattle.std.specs.Float.Ieee.{of_int, of_bits, neg, div}
use Rattle.std.specs.declared.cmp.Ordering.TheVariants.{Less, Greater}
use Rattle.std.specs.declared.ops.Bound.TheVariants.{Included, Excluded, Unbounded}
use Rattle.refusal.specs.Answers.{Valid, written}
use Rattle.refusal.specs.declared.Refusal.TheVariants.{Dims, Padding, Bounds, Need}
use Rattle.bits.specs.Bits.{words_of}
use Rattle.bits.specs.Calls.{checked_of as checked_bits}
use Rattle.bits.specs.Vectors.{bits as words}
use Rattle.bit_words.specs.Ops.{meets}
use Rattle.bit_words.specs.declared.Op.TheVariants.{And, Or, Xor}
use Rattle.bit_distances.specs.Distances.{dot_of, hamming_of, jaccard_of, jaccard_or_nan_of}
use Rattle.bvect.specs.Calls.{Compares as ComparesBits}
use Rattle.sparse.specs.Vectors.{Vector, vector}
use Rattle.sparse.specs.Calls.{checked_of}
use Rattle.merges.specs.Algebra.{joins, turns_of}
use Rattle.merges.specs.declared.Op.TheVariants.{Add, Sub, Mul}
use Rattle.sparse_slices.specs.Calls.{Cuts}
use Rattle.sparse_orders.specs.Calls.{Compares}
use Rattle.regions.specs.Capacity.{capacity_for}
use Rattle.regions.specs.Regions.{Pair, pair}
use Rattle.averages.specs.Averages.{shared}
use Rattle.aggregate_svecf32.specs.States.{header}
use Rattle.aggregate_svecf32.specs.Calls.{row_of, taken}
use Rattle.aggregate_svecf32.specs.declared.Header.{Header}

-- ---- numbers

-- 1.0, 2.0, ..; -1.0, -2.0, ..; and 0.5
abbrev pub plus : ℕ → Float
plus n = of_int binary32 (pos n)

abbrev pub minus : ℕ → Float
minus n = neg (plus n)

abbrev pub half : Float
half = div binary32 (plus 1) (plus 2)

-- the float of these bits
abbrev pub bits : ℕ → Float
bits = of_bits binary32

-- ---- vectors

-- "A is dims 8 {1: 1.0, 4: -2.0}; B is dims 8 {4: 2.0, 6: 0.5}."
abbrev pub A : Vector
A = vector 8 (1 ∷ 4 ∷ []) (plus 1 ∷ minus 2 ∷ [])

abbrev pub B : Vector
B = vector 8 (4 ∷ 6 ∷ []) (plus 2 ∷ half ∷ [])

-- P8: "dims 4, words 12 and 10"; P9: "two zero bit vectors", of dims 4
abbrev pub twelve : List ℕ
twelve = 12 ∷ []

abbrev pub ten : List ℕ
ten = 10 ∷ []

abbrev pub none : List ℕ
none = 0 ∷ []

-- P12: "dims 1000, capacity 16, len 10": a state whose region is the whole of two lists, after one row; and a row of ones at these indexes
abbrev pub state : Header
state = header 0 16 true 1000 10 16 1

abbrev pub lists : Pair
lists = pair (0 ∷ 1 ∷ 2 ∷ 3 ∷ 4 ∷ 5 ∷ 6 ∷ 7 ∷ 8 ∷ 9 ∷ replicate 6 0) (replicate 16 (plus 1))

abbrev pub row : List ℕ → Vector
row is = vector 1000 is (replicate (length is) (plus 1))

-- ---- the list

pub record Figures : Type 0 where
  -- "P1 A + B = {1: 1.0, 6: 0.5}, 3 turns."
  pub P1 : joins Add A B ≡ vector 8 (1 ∷ 6 ∷ []) (plus 1 ∷ half ∷ [])
  pub P1_turns : turns_of Add A B ≡ 3
  -- "P2 A - B = {1: 1.0, 4: -4.0, 6: -0.5}."
  pub P2 : joins Sub A B ≡ vector 8 (1 ∷ 4 ∷ 6 ∷ []) (plus 1 ∷ minus 4 ∷ neg half ∷ [])
  -- "P3 A * B = {4: -4.0}, 2 turns."
  pub P3 : joins Mul A B ≡ vector 8 (4 ∷ []) (minus 4 ∷ [])
  pub P3_turns : turns_of Mul A B ≡ 2
  -- "P4 sparse dims 0 and 1,048,576: DIMS; 1,048,575 with no entries is valid."
  pub P4_none : (is : List ℕ) (vs : List Float) → checked_of (vector 0 is vs) ≡ Err Dims
  pub P4_many : (is : List ℕ) (vs : List Float) → checked_of (vector 1048576 is vs) ≡ Err Dims
  pub P4_most : checked_of (vector 1048575 [] []) ≡ Valid
  -- "P5 bits, dims 65, words (0, 2): PADDING; (0, 1) is valid."
  pub P5 : checked_bits (words 65 (0 ∷ 2 ∷ [])) ≡ Err (Padding 1)
  pub P5_valid : checked_bits (words 65 (0 ∷ 1 ∷ [])) ≡ Valid
  -- "P6 A from Included 4, unbounded: dims 4 {0: -2.0}." Lent are two lists of one place each
  pub P6 : (i : ℕ) (x : Float) → Cuts A (Included 4) Unbounded (i ∷ []) (x ∷ []) (Ok (written 4 1)) (0 ∷ []) (minus 2 ∷ [])
  -- "P7 A on 3..3: BOUNDS." What is lent stays as it was
  pub P7 : (oi : List ℕ) (ov : List Float) → Cuts A (Included 3) (Excluded 3) oi ov (Err Bounds) oi ov
  -- "P8 dims 4, words 12 and 10: AND 8, OR 14, XOR 6, Hamming 2.0, dot -1.0, Jaccard bits 3f2aaaaa."
  pub P8_and : words_of 4 (meets And twelve ten) ≡ 8 ∷ []
  pub P8_or : words_of 4 (meets Or twelve ten) ≡ 14 ∷ []
  pub P8_xor : words_of 4 (meets Xor twelve ten) ≡ 6 ∷ []
  pub P8_hamming : hamming_of 4 twelve ten ≡ plus 2
  pub P8_dot : dot_of 4 twelve ten ≡ minus 1
  pub P8_jaccard : jaccard_of 4 twelve ten ≡ bits 0x3f2aaaaa
  -- "P9 two zero bit vectors: dot bits 80000000, Jaccard NaN."
  pub P9_dot : dot_of 4 none none ≡ bits 0x80000000
  -- request #106: "Figure P9 changes for the default call"; the second keeps it
  pub P9_jaccard : jaccard_of 4 none none ≡ bits 0x00000000
  pub P9_jaccard_or_nan : jaccard_or_nan_of 4 none none ≡ nan
  -- "P10 dims 4: {1: -1.0} against {}: Less. Words 1 against 2: Greater."
  pub P10 : Compares (vector 4 (1 ∷ []) (minus 1 ∷ [])) (vector 4 [] []) (Ok (Some Less))
  pub P10_words : ComparesBits (words 4 (1 ∷ [])) (words 4 (2 ∷ [])) (Ok (Some Greater))
  -- "P11 capacities: dims 1000 with 0, 17, 1000: 16, 32, 1000; dims 10 with 0: 10."
  pub P11_0 : capacity_for 1000 0 ≡ 16
  pub P11_17 : capacity_for 1000 17 ≡ 32
  pub P11_1000 : capacity_for 1000 1000 ≡ 1000
  pub P11_small : capacity_for 10 0 ≡ 10
  -- "P12 dims 1000, capacity 16, len 10, a row of 7: NEED 32,"
  pub P12 : row_of state lists (row (10 ∷ 11 ∷ 12 ∷ 13 ∷ 14 ∷ 15 ∷ 16 ∷ [])) ≡ Err (Need 32)
  -- "even where all 7 overlap."
  pub P12_overlap : row_of state lists (row (3 ∷ 4 ∷ 5 ∷ 6 ∷ 7 ∷ 8 ∷ 9 ∷ [])) ≡ Err (Need 32)
  -- "A row of 6 merges."
  pub P12_six : row_of state lists (row (10 ∷ 11 ∷ 12 ∷ 13 ∷ 14 ∷ 15 ∷ [])) ≡ Valid
  pub P12_sum : (taken state lists (row (10 ∷ 11 ∷ 12 ∷ 13 ∷ 14 ∷ 15 ∷ [])) 1).vector
      ≡ row (0 ∷ 1 ∷ 2 ∷ 3 ∷ 4 ∷ 5 ∷ 6 ∷ 7 ∷ 8 ∷ 9 ∷ 10 ∷ 11 ∷ 12 ∷ 13 ∷ 14 ∷ 15 ∷ [])
  -- "P13 value bits 00000001, count 2: the average has no entry there."
  pub P13 : shared 2 (vector 8 (3 ∷ []) (bits 0x00000001 ∷ [])) ≡ vector 8 [] []
