-- Document 01, "The program": what a line means, without its newline. "two lines `v dims index:bits ...` (decimal, eight lower-case hex
-- digits, single spaces) and one line `add`, `sub` or `mul`."
use Rattle.std.specs.Prelude.{ℕ, suc, ◌≤◌, ◌&&◌, cond, List, [], ◌∷◌, ◌++◌, ◌≡◌, leb, eqb, length, take, drop, Option, Some, None}
use Rattle.std.specs.List.{slice_split}
use Rattle.std.specs.Str.{bytes_eq}
use Rattle.finding.specs.Finding.{index_of}
use Rattle.merges.specs.declared.Op.{Op}
use Rattle.merges.specs.declared.Op.TheVariants.{Add, Sub, Mul}
use Rattle.lines.specs.Numerals.{decimal_of, bits_of}
use Rattle.lines.specs.declared.Item.{Item}
use Rattle.lines.specs.declared.Room.{Room}
use Rattle.lines.specs.declared.Shape.{Shape}

-- ---- words

-- the words of a line. "single spaces": every space ends a word, so two in a row have an empty word between them, and one at the end has
-- an empty word after it
abbrev pub words : List ℕ → List (List ℕ)
words = slice_split (λ c. eqb c 32)

-- ---- `v dims index:bits ...`

-- a vector line: its dims, and the indexes and the bits of its entries; or it is bad
pub data Line : Type 0 where
  vector_line : ℕ → List ℕ → List ℕ → Line
  bad_line : Line

-- an index and the bits of a value
abbrev pub pair : ℕ → ℕ → Item
pair i b = record { index = i; bits = b }

abbrev pub entry : Option ℕ → Option ℕ → Option Item
entry (Some i) (Some b) = Some (pair i b)
entry (Some i) None = None
entry None b = None

-- "index:bits": a decimal up to the first colon, and bits after it
abbrev pub entry_of : List ℕ → Option Item
entry_of w = entry (decimal_of (take (index_of 58 w) w)) (bits_of (drop (suc (index_of 58 w)) w))

-- a line with one entry more in front
abbrev pub push : Option Item → Line → Line
push (Some e) (vector_line d is bs) = vector_line d (e.index ∷ is) (e.bits ∷ bs)
push (Some e) bad_line = bad_line
push None l = bad_line

-- dims alone
abbrev pub no_entries : Option ℕ → Line
no_entries (Some d) = vector_line d [] []
no_entries None = bad_line

-- dims, and words each of which is an entry
unfoldable pub entries_of : Option ℕ → List (List ℕ) → Line
entries_of d [] = no_entries d
entries_of d (w ∷ ws) = push (entry_of w) (entries_of d ws)

-- the word `v`, a word for the dims, and "a vector at most 128 entries"
abbrev pub of_words : List (List ℕ) → Line
of_words [] = bad_line
of_words (v ∷ []) = bad_line
of_words (v ∷ d ∷ ws) = cond (bytes_eq v (118 ∷ []) && leb (length ws) 128) (entries_of (decimal_of d) ws) bad_line

-- what a line means that is to be a vector's
abbrev pub line_of : List ℕ → Line
line_of s = of_words (words s)

-- ---- `add`, `sub` or `mul`

-- what a line means that is to name the operation: it is one of the three words, in bytes, and nothing more
abbrev pub named_of : List ℕ → Option Op
named_of s =
    cond (bytes_eq s (97 ∷ 100 ∷ 100 ∷ [])) (Some Add)
    (cond (bytes_eq s (115 ∷ 117 ∷ 98 ∷ [])) (Some Sub)
    (cond (bytes_eq s (109 ∷ 117 ∷ 108 ∷ [])) (Some Mul)
    None))

-- ---- what reading a vector line hands back

-- so many dims and entries
abbrev pub shape : ℕ → ℕ → Shape
shape d n = record { dims = d; len = n }

-- the dims and the number of entries are answered, and the entries stand in front of what stood in the two lists; of a bad line nothing
-- is said of the lists, which are the reader's own
abbrev pub Reads : Line → Room → Option Shape → Room → Type 0
Reads (vector_line d is bs) old r new =
    (r ≡ Some (shape d (length is)))
    × (new.indexes ≡ is ++ drop (length is) old.indexes)
    × (new.bits ≡ bs ++ drop (length is) old.bits)
    × (length bs ≡ length is)
    × (length is ≤ 128)
Reads bad_line old r new = r ≡ None
