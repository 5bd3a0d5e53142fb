-- Document 01, "The program": what it prints, as lists of bytes. Each text is one line with its newline.
use Rattle.std.specs.Prelude.{ℕ, zero, suc, ◌+◌, ◌/◌, ◌%◌, Bool, true, false, not, ◌&&◌, cond, List, [], ◌∷◌, ◌++◌, ltb}

-- ---- numbers

-- the byte of a digit: `0` to `9`, then `a` to `f`
abbrev pub glyph : ℕ → ℕ
glyph d = cond (ltb d 10) (48 + d) (87 + d)

-- the digits of n in a base, k at most, with zeros in front up to k if they are padded
unfoldable pub spelled : ℕ → Bool → ℕ → ℕ → List ℕ
spelled base padded zero n = []
spelled base padded (suc k) n = cond (ltb n base && not padded) [] (spelled base padded k (n / base)) ++ (glyph (n % base) ∷ [])

-- a decimal without leading zeros; twenty digits hold any number of 64 bits
abbrev pub decimal : ℕ → List ℕ
decimal = spelled 10 false 20

-- "eight lower-case hex digits"
abbrev pub hex : ℕ → List ℕ
hex = spelled 16 true 8

-- ---- lines

abbrev pub newline : List ℕ
newline = 10 ∷ []

-- a space and `index:bits`
abbrev pub entry_text : ℕ → ℕ → List ℕ
entry_text i b = (32 ∷ []) ++ decimal i ++ (58 ∷ []) ++ hex b

-- the entries of a vector, of which these are the indexes and the bits
unfoldable pub entries_text : List ℕ → List ℕ → List ℕ
entries_text [] bs = []
entries_text (i ∷ is) [] = []
entries_text (i ∷ is) (b ∷ bs) = entry_text i b ++ entries_text is bs

-- `dims index:bits ...`
abbrev pub vector_text : ℕ → List ℕ → List ℕ → List ℕ
vector_text d is bs = decimal d ++ entries_text is bs ++ newline

-- "A refusal prints `refused N P`."; the bytes in front are `refused `
abbrev pub refused_text : ℕ → ℕ → List ℕ
refused_text n p = (114 ∷ 101 ∷ 102 ∷ 117 ∷ 115 ∷ 101 ∷ 100 ∷ 32 ∷ []) ++ decimal n ++ (32 ∷ []) ++ decimal p ++ newline

-- "`bad line L` names the first bad, missing or extra line"; the bytes in front are `bad line `
abbrev pub bad_text : ℕ → List ℕ
bad_text l = (98 ∷ 97 ∷ 100 ∷ 32 ∷ 108 ∷ 105 ∷ 110 ∷ 101 ∷ 32 ∷ []) ++ decimal l ++ newline
