-- What counts and combinations of bit vectors answer.
use Rattle.std.specs.Prelude.{ℕ, List, [], ◌∷◌, length, Result, Ok, Err}
use Rattle.places.specs.Below.{count_below}
use Rattle.refusal.specs.Answers.{Checked, next, Says, says, refused, Answers, Writes}
use Rattle.refusal.specs.declared.Refusal.{Refusal}
use Rattle.refusal.specs.declared.Written.{Written}
use Rattle.bits.specs.Bits.{bit_at, words_of}
use Rattle.bits.specs.Vectors.{BitVector}
use Rattle.bits.specs.Calls.{checked_of, pair_of, room_of}
use Rattle.bit_words.specs.Ops.{meets}
use Rattle.bit_words.specs.declared.Op.{Op}
use Rattle.bit_words.specs.declared.Op.TheVariants.{And, Or}
use Rattle.bit_words.specs.declared.Two.{Two}

-- ---- the answers of counts

abbrev pub count_says : Result ℕ Refusal → Says
count_says (Ok n) = says 0 0 (n ∷ [])
count_says (Err r) = refused r (0 ∷ [])

abbrev pub counts_says : Result Two Refusal → Says
counts_says (Ok t) = says 0 0 (t.and ∷ t.or ∷ [])
counts_says (Err r) = refused r (0 ∷ 0 ∷ [])

-- a count of n ones
abbrev pub Tallies : ℕ → Checked → Result ℕ Refusal → Type 0
Tallies n = Answers count_says (n ∷ []) [] n

-- a count of m ones, and one of n
abbrev pub two : ℕ → ℕ → Two
two m n = record { and = m; or = n }

abbrev pub TalliesBoth : ℕ → ℕ → Checked → Result Two Refusal → Type 0
TalliesBoth m n = Answers counts_says (m ∷ n ∷ []) [] (two m n)

-- ---- what the calls promise

-- how many places below dims have a one
abbrev pub SumsOne : BitVector → Result ℕ Refusal → Type 0
SumsOne a = Tallies (count_below (bit_at a.words) a.dims) (checked_of a)

-- how many places below dims have a one in the two vectors put together
abbrev pub Sums : Op → BitVector → BitVector → Result ℕ Refusal → Type 0
Sums op a b = Tallies (count_below (meets op a.words b.words) a.dims) (pair_of a b)

-- the same for AND and for OR
abbrev pub SumsBoth : BitVector → BitVector → Result Two Refusal → Type 0
SumsBoth a b = TalliesBoth (count_below (meets And a.words b.words) a.dims) (count_below (meets Or a.words b.words) a.dims) (pair_of a b)

-- the two vectors put together, written to an output
abbrev pub Combines : Op → BitVector → BitVector → List ℕ → Result Written Refusal → List ℕ → Type 0
Combines op a b old r left =
    Writes (next (pair_of a b) (room_of a.dims (length old))) a.dims (words_of a.dims (meets op a.words b.words)) old r left
