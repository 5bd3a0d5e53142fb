-- A line that is written is read back: its words, its entries, and the whole. Assumes nothing.
use Prim.Native.Nat.{ℕ, suc, ◌≤◌, ◌<◌}
use mathlib.Core.Bool.{Bool, true, false}
use mathlib.Core.List.{List, [], ◌∷◌, ◌++◌, append_assoc}
use mathlib.Core.Path.{◌≡◌, refl, ap, ◌∙◌}
use native.Mathlib.Omega.{arith}
use lib.ListN.{length, get_or, length-append}
use lib.Seq.{take-append_seam, drop-append_seam}
use borrow.Author.Tests.{lt-ltb, le-leb}
use Rattle.std.specs.Prelude.{Some}
use Rattle.finding.specs.Finding.{index_of, index_after}
use Rattle.lines.specs.Lines.{words, vector_line, pair, entry_of, entries_of, line_of}
use Rattle.lines.proofs.Words.{words_after, first_word}
use Rattle.texts.specs.Texts.{spelled, decimal, hex, entries_text}
use Rattle.entry_bits.specs.Operands.{Operand}
use Rattle.reading.specs.Starts.{rest, first_vector}
use Rattle.session.specs.Written.{written, Writable}
use Rattle.lines.proofs.Finding.{Lacks, index_append, lacks_append, lacks_one, index_next, before_next, after_next}
use Rattle.session.proofs.Digits.{glyph_not, glyph_no_colon, spelled_lacks, read_decimal, read_hex}

-- ---- an entry

-- an entry without the space before it
abbrev pub word : ℕ → ℕ → List ℕ
word i b = decimal i ++ (58 ∷ []) ++ hex b

read_entry : (i b : ℕ) → i < 4294967296 → b < 4294967296 → entry_of (word i b) ≡ Some (pair i b)
read_entry i b h l =
    let colon = spelled_lacks 58 10 false glyph_no_colon 20 i in
    let before = before_next 58 (decimal i) (hex b) colon in
    let after = after_next 58 (decimal i) (hex b) colon in
    rw (append_assoc (decimal i) (58 ∷ []) (hex b), before, after, read_decimal i h, read_hex b l)

-- ---- the words of a line

no_digit : (c base : ℕ) (padded : Bool) (k n : ℕ) → c < 48 → Lacks c (spelled base padded k n)
no_digit c base padded k n h = spelled_lacks c base padded (λ d. glyph_not c d h) k n

word_lacks : (c i b : ℕ) → c < 48 → Lacks c (word i b)
unfolding index_of index_after
word_lacks c i b h =
    lacks_append c (decimal i ++ (58 ∷ [])) (hex b)
    (lacks_append c (decimal i) (58 ∷ []) (no_digit c 10 false 20 i h) (lacks_one c 58 (λ e. omega arith)))
    (no_digit c 16 true 8 b h)

entries_lack : (is bs : List ℕ) → Lacks 10 (entries_text is bs)
unfolding entries_text index_of index_after
entries_lack [] bs = refl
entries_lack (i ∷ is) [] = refl
entries_lack (i ∷ is) (b ∷ bs) = ap suc (lacks_append 10 (word i b) (entries_text is bs) (word_lacks 10 i b (omega arith)) (entries_lack is bs))

-- the entries of a line begin with a space, if there are any
spaced : (is bs : List ℕ) → index_of 32 (entries_text is bs) ≡ 0
unfolding entries_text index_of index_after
spaced [] bs = refl
spaced (i ∷ is) [] = refl
spaced (i ∷ is) (b ∷ bs) = refl

words_next : (w t : List ℕ) → Lacks 32 w → index_of 32 t ≡ 0 → words (w ++ t) ≡ w ∷ words_after t
words_next w t l z =
    let at : index_of 32 (w ++ t) ≡ length w = omega (arith, index_append 32 w t l, z) in
    first_word (w ++ t) ∙ rw (at, take-append_seam w t, drop-append_seam w t)

entry_words : List ℕ → List ℕ → List (List ℕ)
entry_words [] bs = []
entry_words (i ∷ is) [] = []
entry_words (i ∷ is) (b ∷ bs) = word i b ∷ entry_words is bs

entry_words_lem : (is bs : List ℕ) → words_after (entries_text is bs) ≡ entry_words is bs
unfolding entries_text entry_words
entry_words_lem [] bs = refl
entry_words_lem (i ∷ is) [] = refl
entry_words_lem (i ∷ is) (b ∷ bs) =
    words_next (word i b) (entries_text is bs) (word_lacks 32 i b (omega arith)) (spaced is bs)
    ∙ ap (λ (ws : List (List ℕ)). word i b ∷ ws) (entry_words_lem is bs)

count : (is bs : List ℕ) → length (entry_words is bs) ≤ length is
unfolding entry_words
count [] bs = omega arith
count (i ∷ is) [] = omega arith
count (i ∷ is) (b ∷ bs) = omega (arith, count is bs)

read_entries : (d : ℕ) (is bs : List ℕ) → ((k : ℕ) → get_or is k 0 < 4294967296) → ((k : ℕ) → get_or bs k 0 < 4294967296) → length bs ≡ length is
    → entries_of (Some d) (entry_words is bs) ≡ vector_line d is bs
unfolding entries_of entry_words
read_entries d [] [] h l e = refl
read_entries d [] (b ∷ bs) h l e = absurd (omega arith)
read_entries d (i ∷ is) [] h l e = absurd (omega arith)
read_entries d (i ∷ is) (b ∷ bs) h l e =
    rw (read_entry i b (h 0) (l 0), read_entries d is bs (λ k. h (suc k)) (λ k. l (suc k)) (omega arith))

-- ---- a line

-- a line without its newline
abbrev pub body : Operand → List ℕ
body a = (118 ∷ 32 ∷ []) ++ (decimal a.dims ++ entries_text a.indexes a.bits)

read_body : (a : Operand) → Writable a → line_of (body a) ≡ vector_line a.dims a.indexes a.bits
read_body a w =
    let d = decimal a.dims in
    let split = words_next d (entries_text a.indexes a.bits) (no_digit 32 10 false 20 a.dims (omega arith)) (spaced a.indexes a.bits) in
    let few : length (entry_words a.indexes a.bits) ≤ 128 = omega (arith, count a.indexes a.bits, w.few) in
    rw (split, entry_words_lem a.indexes a.bits, le-leb (length (entry_words a.indexes a.bits)) 128 few, read_decimal a.dims w.dims_fit)
    (read_entries a.dims a.indexes a.bits w.indexes_fit w.bits_fit w.even)

body_lacks : (a : Operand) → Lacks 10 (body a)
unfolding index_of index_after
body_lacks a =
    let d = decimal a.dims in
    let e = entries_text a.indexes a.bits in
    lacks_append 10 (118 ∷ 32 ∷ []) (d ++ e) refl
    (lacks_append 10 d e (no_digit 10 10 false 20 a.dims (omega arith)) (entries_lack a.indexes a.bits))

-- a text without newlines, and a newline
first_line_lem : (s u : List ℕ) → Lacks 10 s → length s < 4096 → first_vector (s ++ 10 ∷ u) ≡ line_of s
first_line_lem s u l short =
    let within : length s < length (s ++ 10 ∷ u) = omega (arith, length-append s (10 ∷ u)) in
    rw (index_next 10 s u l, lt-ltb (length s) (length (s ++ 10 ∷ u)) within, lt-ltb (length s) 4096 short, take-append_seam s (10 ∷ u))

-- what is written starts with the line, and the newline follows
pub split_written : (a : Operand) (u : List ℕ) → written a ++ u ≡ body a ++ 10 ∷ u
split_written a u = ap (λ (t : List ℕ). 118 ∷ 32 ∷ t) (append_assoc (decimal a.dims ++ entries_text a.indexes a.bits) (10 ∷ []) u)

module _ (a : Operand) (u : List ℕ) (w : Writable a) where
  pub read_written : first_vector (written a ++ u) ≡ vector_line a.dims a.indexes a.bits
  read_written =
      let one = length-append (decimal a.dims ++ entries_text a.indexes a.bits) (10 ∷ []) in
      let short : length (body a) < 4096 = omega (arith, w.short, one) in
      ap first_vector (split_written a u) ∙ first_line_lem (body a) u (body_lacks a) short ∙ read_body a w

  pub after_written : rest (written a ++ u) ≡ u
  after_written = ap rest (split_written a u) ∙ after_next 10 (body a) u (body_lacks a)
