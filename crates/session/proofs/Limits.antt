-- The limits of document 01 on what is read: numbers fit u32, each index has its bits, a vector has at most 128 entries and a line at most
-- 4,096 bytes. So a session is read exactly when it is written from operands within the limits. Assumes nothing.
use Prim.{Unit, tt}
use Prim.Native.Nat.{ℕ, zero, suc, ◌≤◌, ◌<◌}
use mathlib.Core.Bool.{Bool, true, false, ◌&&◌, ◌||◌, cond}
use mathlib.Core.List.{List, [], ◌∷◌, ◌++◌}
use mathlib.Core.Logic.{◌↔◌}
use mathlib.Core.Path.{◌≡◌, refl, ap, ◌∙◌, subst}
use native.Mathlib.Omega.{arith}
use lib.Dec.{leb, ltb, eqb}
use lib.ListN.{length, get_or, take, drop, length-append, length-drop}
use borrow.Author.Tests.{leb-true}
use Rattle.places.proofs.Below.{and_true}
use Rattle.std.specs.Prelude.{Option, Some, None}
use Rattle.std.specs.Str.{bytes_eq}
use Rattle.lines.specs.declared.Item.{Item}
use Rattle.finding.specs.Finding.{index_of}
use Rattle.lines.specs.Numerals.{all_digits, value_from, numeral_of, decimal_of, bits_of}
use Rattle.lines.specs.Lines.{Line, vector_line, bad_line, entry, entry_of, push, entries_of, of_words, line_of, words}
use Rattle.merges.specs.declared.Op.{Op}
use Rattle.entry_bits.specs.Operands.{Operand}
use Rattle.session.specs.Sessions.{asks, session_of}
use Rattle.reading.specs.Starts.{has_line, first_line, rest, first_vector, first_name}
use Rattle.session.specs.Written.{written, named, Writable}
use Rattle.reading.proofs.Ends.{line_found}
use Rattle.session.proofs.Only.{vector_only}
use Rattle.session.proofs.Meaning.{asked, read_back, only_written}

-- ---- numbers

-- a number that is read fits u32
abbrev Fits : Option ℕ → Type 0
Fits (Some n) = n < 4294967296
Fits None = Unit

numeral_fits : (base : ℕ) (s : List ℕ) → Fits (numeral_of base s)
numeral_fits base s = go (all_digits base s && leb (value_from base 0 s) 4294967295) refl
  where
    go : (b : Bool) → (all_digits base s && leb (value_from base 0 s) 4294967295) ≡ b → Fits (cond b (Some (value_from base 0 s)) None)
    go true e =
        let both = and_true (all_digits base s) (leb (value_from base 0 s) 4294967295) e in
        omega (arith, leb-true (value_from base 0 s) 4294967295 both.1)
    go false e = tt

decimal_fits : (s : List ℕ) → Fits (decimal_of s)
decimal_fits s = go (eqb (length s) 0 || (eqb (get_or s 0 0) 48 && ltb 1 (length s)))
  where
    go : (b : Bool) → Fits (cond b None (numeral_of 10 s))
    go true = tt
    go false = numeral_fits 10 s

hex_fits : (s : List ℕ) → Fits (bits_of s)
hex_fits s = go (eqb (length s) 8)
  where
    go : (b : Bool) → Fits (cond b (numeral_of 16 s) None)
    go true = numeral_fits 16 s
    go false = tt

-- ---- entries

-- both numbers of an entry fit
abbrev BothFit : Option Item → Type 0
BothFit (Some e) = (e.index < 4294967296) × (e.bits < 4294967296)
BothFit None = Unit

entry_fits : (n m : Option ℕ) → Fits n → Fits m → BothFit (entry n m)
entry_fits (Some i) (Some b) h l = (h, l)
entry_fits (Some i) None h l = tt
entry_fits None m h l = tt

-- every number of a list fits; past its end there are zeros
abbrev AllFit : List ℕ → Type 0
AllFit s = (k : ℕ) → get_or s k 0 < 4294967296

none_fit : AllFit []
none_fit k = omega arith

one_fits : (n : ℕ) (s : List ℕ) → n < 4294967296 → AllFit s → AllFit (n ∷ s)
one_fits n s h l zero = h
one_fits n s h l (suc k) = l k

-- a line that is read has numbers that fit, as many bits as indexes, and at most n entries
abbrev Within : ℕ → Line → Type 0
Within n (vector_line d is bs) = (d < 4294967296) × AllFit is × AllFit bs × (length bs ≡ length is) × (length is ≤ n)
Within n bad_line = Unit

push_within : (n : ℕ) (o : Option Item) (l : Line) → BothFit o → Within n l → Within (suc n) (push o l)
push_within n (Some e) (vector_line d is bs) h w =
    (w.0, one_fits e.index is h.0 w.1, one_fits e.bits bs h.1 w.2, omega (arith, w.3), omega (arith, w.4))
push_within n (Some e) bad_line h w = tt
push_within n None l h w = tt

entries_within : (d : Option ℕ) (ws : List (List ℕ)) → Fits d → Within (length ws) (entries_of d ws)
unfolding entries_of
entries_within (Some d) [] h = (h, none_fit, none_fit, refl, omega arith)
entries_within None [] h = tt
entries_within d (w ∷ ws) h =
    let x = index_of 58 w in
    push_within (length ws) (entry_of w) (entries_of d ws)
    (entry_fits (decimal_of (take x w)) (bits_of (drop (suc x) w)) (decimal_fits (take x w)) (hex_fits (drop (suc x) w)))
    (entries_within d ws h)

-- ---- lines

-- what is within a limit is within a higher one
fewer : (n m : ℕ) (l : Line) → n ≤ m → Within n l → Within m l
fewer n m (vector_line d is bs) h w = (w.0, w.1, w.2, w.3, omega (arith, w.4))
fewer n m bad_line h w = tt

words_within : (ws : List (List ℕ)) → Within 128 (of_words ws)
words_within [] = tt
words_within (v ∷ []) = tt
words_within (v ∷ d ∷ ws) = go (bytes_eq v (118 ∷ []) && leb (length ws) 128) refl
  where
    go : (b : Bool) → (bytes_eq v (118 ∷ []) && leb (length ws) 128) ≡ b → Within 128 (cond b (entries_of (decimal_of d) ws) bad_line)
    go true e =
        let few = leb-true (length ws) 128 (and_true (bytes_eq v (118 ∷ [])) (leb (length ws) 128) e).1 in
        fewer (length ws) 128 (entries_of (decimal_of d) ws) few (entries_within (decimal_of d) ws (decimal_fits d))
    go false e = tt

-- an operand whose line is read is writable
line_writable : (s : List ℕ) (a : Operand) → first_vector s ≡ vector_line a.dims a.indexes a.bits → Writable a
line_writable s a e = go (has_line s) refl e
  where
    go : (b : Bool) → has_line s ≡ b → cond b (line_of (first_line s)) bad_line ≡ vector_line a.dims a.indexes a.bits → Writable a
    go true h l =
        let w = subst (Within 128) l (words_within (words (first_line s))) in
        let found = line_found s h in
        let whole = ap length (vector_only s a.dims a.indexes a.bits e) ∙ length-append (written a) (rest s) in
        record {
          dims_fit = w.0;
          indexes_fit = w.1;
          bits_fit = w.2;
          even = w.3;
          few = w.4;
          short = omega (arith, found.0, found.1, whole, length-drop (suc (index_of 10 s)) s);
        }
    go false h l = absurd cc

-- ---- sessions

-- what is read is within the limits
pub read_writable : (op : Op) (a b : Operand) (s : List ℕ) → session_of s ≡ asks op a b → Writable a × Writable b
read_writable op a b s e =
    let r = asked op a b (first_vector s) (first_vector (rest s)) (first_name (rest (rest s))) (rest (rest (rest s))) e in
    (line_writable s a r.0, line_writable (rest s) b r.1)

-- a session is read exactly when it is written from operands within the limits
pub read_exactly : (op : Op) (a b : Operand) (s : List ℕ)
    → (session_of s ≡ asks op a b) ↔ (Writable a × Writable b × (s ≡ written a ++ written b ++ named op))
read_exactly op a b s = (
  λ e. let w = read_writable op a b s e in (w.0, w.1, only_written op a b s e),
  λ h. ap session_of h.2 ∙ read_back op a b h.0 h.1,
)
