-- A line that is read is a line that is written: nothing else is read. Assumes nothing.
use Prim.Native.Nat.{ℕ, suc, ◌<◌}
use mathlib.Core.Bool.{Bool, true, false, ◌&&◌, cond}
use mathlib.Core.List.{List, [], ◌∷◌, ◌++◌}
use mathlib.Core.Path.{◌≡◌, refl, sym, ap, ap₂, ◌∙◌}
use native.Mathlib.Omega.{arith}
use lib.Dec.{leb, eqb}
use lib.ListN.{length, take, drop, length-drop}
use lib.Seq.{append_snoc}
use borrow.Author.Tests.{eqb-true}
use Rattle.places.proofs.Below.{and_true}
use Rattle.std.specs.Prelude.{Option, Some, None}
use Rattle.std.specs.Str.{bytes_eq}
use Rattle.std.proofs.lemmas.Slice.Eq.{bytes_eq-Decides}
use Rattle.std.proofs.lemmas.Option.{same_Some}
use Rattle.lines.specs.declared.Item.{Item}
use Rattle.finding.specs.Finding.{index_of}
use Rattle.lines.specs.Numerals.{decimal_of, bits_of}
use Rattle.lines.specs.Lines.{Line, vector_line, bad_line, words, pair, entry, entry_of, push, entries_of, of_words, line_of, named_of}
use Rattle.lines.proofs.Words.{words_after, first_word}
use Rattle.merges.specs.declared.Op.{Op}
use Rattle.merges.specs.declared.Op.TheVariants.{Add, Sub, Mul}
use Rattle.texts.specs.Texts.{decimal, hex, entries_text}
use Rattle.entry_bits.specs.Operands.{operand}
use Rattle.reading.specs.Starts.{has_line, first_line, rest, first_vector, first_name}
use Rattle.session.specs.Written.{written, named}
use Rattle.lines.proofs.Finding.{found_split}
use Rattle.reading.proofs.Ends.{line_found}
use Rattle.session.proofs.Digits.{padded_length}
use Rattle.session.proofs.Respelled.{decimal_only, hex_only}
use Rattle.session.proofs.Back.{word, body, split_written}

-- ---- an entry

entry_of_lem : (n m : Option ℕ) (i b : ℕ) → entry n m ≡ Some (pair i b) → (n ≡ Some i) × (m ≡ Some b)
entry_of_lem (Some j) (Some c) i b e =
    let same = same_Some (pair j c) (pair i b) e in
    (ap (λ (o : Item). Some o.index) same, ap (λ (o : Item). Some o.bits) same)
entry_of_lem (Some j) None i b e = absurd cc
entry_of_lem None m i b e = absurd cc

entry_only : (w : List ℕ) (i b : ℕ) → entry_of w ≡ Some (pair i b) → w ≡ word i b
entry_only w i b e =
    let x = index_of 58 w in
    let both = entry_of_lem (decimal_of (take x w)) (bits_of (drop (suc x) w)) i b e in
    let index : take x w ≡ decimal i = decimal_only (take x w) i both.0 in
    let bits : drop (suc x) w ≡ hex b = hex_only (drop (suc x) w) b both.1 in
    let within : x < length w = omega (arith, length-drop (suc x) w, ap length bits, padded_length 16 8 b) in
    found_split 58 w within
    ∙ ap₂ (λ (s t : List ℕ). s ++ 58 ∷ t) index bits
    ∙ sym (append_snoc (decimal i) 58 (hex b))

-- ---- words

-- words, each with a space before it
apart : List (List ℕ) → List ℕ
apart [] = []
apart (w ∷ ws) = 32 ∷ (w ++ apart ws)

-- a line is its words
joined : (s w : List ℕ) (ws : List (List ℕ)) → words s ≡ w ∷ ws → s ≡ w ++ apart ws
unfolding apart
joined [] w ws e =
    let v : w ≡ [] = cc in
    let vs : ws ≡ [] = cc in
    rw (v, vs)
joined (c ∷ s) w ws e =
    let v = take (index_of 32 s) s in
    let vs = words_after (drop (index_of 32 s) s) in
    go (eqb c 32) refl v vs (rw (first_word s) at e) (joined s v vs (first_word s))
  where
    go : (b : Bool) → eqb c 32 ≡ b → (v : List ℕ) (vs : List (List ℕ)) → cond b ([] ∷ v ∷ vs) ((c ∷ v) ∷ vs) ≡ w ∷ ws → s ≡ v ++ apart vs
        → c ∷ s ≡ w ++ apart ws
    go true p v vs e f =
        let none : w ≡ [] = cc in
        let more : ws ≡ v ∷ vs = cc in
        rw (none, more) (ap₂ (λ (x : ℕ) (u : List ℕ). x ∷ u) (eqb-true c 32 p) f)
    go false p v vs e f =
        let first : w ≡ c ∷ v = cc in
        let more : ws ≡ vs = cc in
        rw (first, more) (ap (λ (u : List ℕ). c ∷ u) f)

-- ---- a vector's line

entries_only : (n : Option ℕ) (ws : List (List ℕ)) (d : ℕ) (is bs : List ℕ) → entries_of n ws ≡ vector_line d is bs
    → (n ≡ Some d) × (apart ws ≡ entries_text is bs)
unfolding entries_of apart entries_text
entries_only (Some m) [] d is bs e =
    let none : is ≡ [] = cc in
    (cc, rw none)
entries_only None [] d is bs e = absurd cc
entries_only n (w ∷ ws) d is bs e = go (entry_of w) (entries_of n ws) refl refl e (entries_only n ws)
  where
    go : (o : Option Item) (l : Line) → entry_of w ≡ o → entries_of n ws ≡ l → push o l ≡ vector_line d is bs
        → ((d : ℕ) (is bs : List ℕ) → entries_of n ws ≡ vector_line d is bs → (n ≡ Some d) × (apart ws ≡ entries_text is bs))
        → (n ≡ Some d) × (32 ∷ (w ++ apart ws) ≡ entries_text is bs)
    go (Some o) (vector_line c js cs) p q e f =
        let r = f c js cs q in
        let dims : c ≡ d = cc in
        let indexes : is ≡ o.index ∷ js = cc in
        let bits : bs ≡ o.bits ∷ cs = cc in
        let text : w ++ apart ws ≡ word o.index o.bits ++ entries_text js cs =
        ap₂ (λ (s t : List ℕ). s ++ t) (entry_only w o.index o.bits p) r.1 in
        (r.0 ∙ ap (λ (m : ℕ). Some m) dims, rw (indexes, bits) (ap (λ (t : List ℕ). 32 ∷ t) text))
    go (Some o) bad_line p q e f = absurd cc
    go None l p q e f = absurd cc

line_only : (s : List ℕ) (d : ℕ) (is bs : List ℕ) → line_of s ≡ vector_line d is bs → s ≡ body (operand d is bs)
unfolding apart
line_only s d is bs e = go (words s) refl e
  where
    read : (v w : List ℕ) (ws : List (List ℕ)) (b : Bool) → words s ≡ v ∷ w ∷ ws → (bytes_eq v (118 ∷ []) && leb (length ws) 128) ≡ b
        → cond b (entries_of (decimal_of w) ws) bad_line ≡ vector_line d is bs → s ≡ body (operand d is bs)
    read v w ws true p q e =
        let first = (bytes_eq-Decides v (118 ∷ [])).0 (and_true (bytes_eq v (118 ∷ [])) (leb (length ws) 128) q).0 in
        let r = entries_only (decimal_of w) ws d is bs e in
        joined s v (w ∷ ws) p ∙ rw (first, decimal_only w d r.0, r.1)
    read v w ws false p q e = absurd cc

    go : (us : List (List ℕ)) → words s ≡ us → of_words us ≡ vector_line d is bs → s ≡ body (operand d is bs)
    go [] p e = absurd cc
    go (v ∷ []) p e = absurd cc
    go (v ∷ w ∷ ws) p e = read v w ws (bytes_eq v (118 ∷ []) && leb (length ws) 128) p refl e

-- ---- the first line

split_line : (s : List ℕ) → has_line s ≡ true → s ≡ first_line s ++ 10 ∷ rest s
split_line s e = found_split 10 s (line_found s e).0

pub vector_only : (s : List ℕ) (d : ℕ) (is bs : List ℕ) → first_vector s ≡ vector_line d is bs → s ≡ written (operand d is bs) ++ rest s
vector_only s d is bs = go (has_line s) refl
  where
    go : (b : Bool) → has_line s ≡ b → cond b (line_of (first_line s)) bad_line ≡ vector_line d is bs → s ≡ written (operand d is bs) ++ rest s
    go true h e =
        split_line s h
        ∙ ap (λ (t : List ℕ). t ++ 10 ∷ rest s) (line_only (first_line s) d is bs e)
        ∙ sym (split_written (operand d is bs) (rest s))
    go false h e = absurd cc

name_only : (s : List ℕ) (op : Op) → named_of s ≡ Some op → s ++ 10 ∷ [] ≡ named op
name_only s op = go (bytes_eq s (97 ∷ 100 ∷ 100 ∷ [])) (bytes_eq s (115 ∷ 117 ∷ 98 ∷ [])) (bytes_eq s (109 ∷ 117 ∷ 108 ∷ [])) refl refl refl
  where
    go : (a b c : Bool) → bytes_eq s (97 ∷ 100 ∷ 100 ∷ []) ≡ a → bytes_eq s (115 ∷ 117 ∷ 98 ∷ []) ≡ b → bytes_eq s (109 ∷ 117 ∷ 108 ∷ []) ≡ c
        → cond a (Some Add) (cond b (Some Sub) (cond c (Some Mul) None)) ≡ Some op → s ++ 10 ∷ [] ≡ named op
    go true b c p q r e =
        let is : op ≡ Add = cc in
        rw (is, (bytes_eq-Decides s (97 ∷ 100 ∷ 100 ∷ [])).0 p)
    go false true c p q r e =
        let is : op ≡ Sub = cc in
        rw (is, (bytes_eq-Decides s (115 ∷ 117 ∷ 98 ∷ [])).0 q)
    go false false true p q r e =
        let is : op ≡ Mul = cc in
        rw (is, (bytes_eq-Decides s (109 ∷ 117 ∷ 108 ∷ [])).0 r)
    go false false false p q r e = absurd cc

pub named_only : (s : List ℕ) (op : Op) → first_name s ≡ Some op → s ≡ named op ++ rest s
named_only s op = go (has_line s) refl
  where
    go : (b : Bool) → has_line s ≡ b → cond b (named_of (first_line s)) None ≡ Some op → s ≡ named op ++ rest s
    go true h e =
        split_line s h
        ∙ sym (append_snoc (first_line s) 10 (rest s))
        ∙ ap (λ (t : List ℕ). t ++ rest s) (name_only (first_line s) op e)
    go false h e = absurd cc
