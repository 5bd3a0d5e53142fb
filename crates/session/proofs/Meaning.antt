-- Sessions to the letter: what is written in the form of document 01 is read back as it was meant, and nothing else is
-- read. Assumes nothing.
use Prim.Native.Nat.{ℕ}
use mathlib.Core.List.{List, [], ◌∷◌, ◌++◌, append_assoc, append-nil}
use mathlib.Core.Path.{◌≡◌, refl, sym, ap, ◌∙◌}
use Rattle.std.specs.Prelude.{Option, Some, None}
use Rattle.finding.specs.Finding.{index_of, index_after}
use Rattle.lines.specs.Lines.{Line, vector_line, bad_line}
use Rattle.merges.specs.declared.Op.{Op}
use Rattle.merges.specs.declared.Op.TheVariants.{Add, Sub, Mul}
use Rattle.entry_bits.specs.Operands.{Operand, operand}
use Rattle.session.specs.Sessions.{asks, session, session_of}
use Rattle.reading.specs.Starts.{rest, first_vector, first_name}
use Rattle.session.specs.Written.{written, named, Writable}
use Rattle.session.proofs.Back.{read_written, after_written}
use Rattle.session.proofs.Only.{vector_only, named_only}

read_named : (op : Op) → first_name (named op) ≡ Some op
unfolding index_of index_after
read_named Add = refl
read_named Sub = refl
read_named Mul = refl

after_named : (op : Op) → rest (named op) ≡ []
unfolding index_of index_after
after_named Add = refl
after_named Sub = refl
after_named Mul = refl

-- a session whose lines are known
known : (s t u v : List ℕ) (l m : Line) (n : Option Op) → first_vector s ≡ l → rest s ≡ t → first_vector t ≡ m → rest t ≡ u → first_name u ≡ n → rest u ≡ v
    → session_of s ≡ session l m n v
known s t u v l m n first next second after third end = rw (next, after, end, first, second, third)

-- the line that is read of an operand
abbrev line_for : Operand → Line
line_for a = vector_line a.dims a.indexes a.bits

-- what is written is read back as it was meant
pub read_back : (op : Op) (a b : Operand) → Writable a → Writable b → session_of (written a ++ written b ++ named op) ≡ asks op a b
read_back op a b w v =
    let t = written b ++ named op in
    ap session_of (append_assoc (written a) (written b) (named op))
    ∙ known (written a ++ t) t (named op) [] _ _ _ (read_written a t w) (after_written a t w) (read_written b (named op) v)
    (after_written b (named op) v) (read_named op) (after_named op)

-- what a session says of its lines
module _ (op : Op) (a b : Operand) where
  pub asked : (l m : Line) (n : Option Op) (extra : List ℕ) → session l m n extra ≡ asks op a b
      → (l ≡ line_for a) × (m ≡ line_for b) × (n ≡ Some op) × (extra ≡ [])
  asked bad_line m n extra e = absurd cc
  asked (vector_line d is bs) bad_line n extra e = absurd cc
  asked (vector_line d is bs) (vector_line f js cs) None extra e = absurd cc
  asked (vector_line d is bs) (vector_line f js cs) (Some p) (x ∷ extra) e = absurd cc
  asked (vector_line d is bs) (vector_line f js cs) (Some p) [] e =
      let first : operand d is bs ≡ a = cc in
      let second : operand f js cs ≡ b = cc in
      let name : p ≡ op = cc in
      (ap line_for first, ap line_for second, ap (λ (o : Op). Some o) name, refl)

-- nothing else is read, whatever the bytes
pub only_written : (op : Op) (a b : Operand) (s : List ℕ) → session_of s ≡ asks op a b → s ≡ written a ++ written b ++ named op
only_written op a b s e =
    let r = asked op a b (first_vector s) (first_vector (rest s)) (first_name (rest (rest s))) (rest (rest (rest s))) e in
    let third : rest (rest s) ≡ named op = named_only (rest (rest s)) op r.2 ∙ rw (r.3, append-nil (named op)) in
    let second = vector_only (rest s) b.dims b.indexes b.bits r.1 ∙ ap (λ (t : List ℕ). written b ++ t) third in
    vector_only s a.dims a.indexes a.bits r.0
    ∙ ap (λ (t : List ℕ). written a ++ t) second
    ∙ sym (append_assoc (written a) (written b) (named op))
