-- What was read of the lines of a session decides what is printed. Assumes nothing.
use Rattle.std.proofs.Common.{◌≡◌, ℕ, ◌≤◌, true, false, not, cond, eqb, List, [], ◌∷◌, ◌++◌, Some, None, length, take, drop, refl, sym, ap, ◌∙◌}
use lib.Dec.{eqb-suc-zero}
use Rattle.merges.specs.declared.Op.{Op}
use Rattle.lines.specs.Lines.{Line, vector_line, bad_line, shape, Reads}
use Rattle.std.proofs.lemmas.Option.{same_Some}
use Rattle.lines.specs.declared.Room.{Room}
use Rattle.lines.specs.declared.Shape.{Shape}
use Rattle.texts.specs.Texts.{bad_text}
use Rattle.entry_bits.specs.Operands.{Operand, operand}
use Rattle.session.specs.Sessions.{asks, bad, session, session_of}
use Rattle.reading.specs.Starts.{rest, first_vector, first_name}
use Rattle.session.specs.Answers.{text_of, answer_of}
use Rattle.session.proofs.Fronts.{front, front_count}

-- ---- a vector's line

-- the line l is a vector's: its n entries stand in front of two lists
pub record Took (l : Line) (d n : ℕ) (left : Room) : Type 0 where
  pub line : l ≡ vector_line d (take n left.indexes) (take n left.bits)
  pub many : n ≡ length (take n left.indexes)
  pub many' : n ≡ length (take n left.bits)
  pub few : n ≤ 128

-- what the answer of reading a line tells of the line
module _ (old new : Room) where
  pub read_bad : (l : Line) → Reads l old None new → l ≡ bad_line
  read_bad bad_line h = refl
  read_bad (vector_line d is bs) h = let e = h.0 in absurd cc

  pub read_vector : (l : Line) {d n : ℕ} → Reads l old (Some (shape d n)) new → Took l d n new
  read_vector bad_line h = absurd cc
  read_vector (vector_line e is bs) {d} {n} h =
      let q = same_Some (shape d n) (shape e (length is)) h.0 in
      let dims : e ≡ d = ap (λ (s : Shape). s.dims) (sym q) in
      let count : n ≡ length is = ap (λ (s : Shape). s.len) q in
      let indexes : new.indexes ≡ is ++ drop n old.indexes = rw count h.1 in
      let bits : new.bits ≡ bs ++ drop n old.bits = rw count h.2 in
      let even : length bs ≡ n = h.3 ∙ sym count in
      record {
        line = rw (front is old.indexes n indexes (sym count), front bs old.bits n bits even, dims);
        many = front_count is old.indexes n indexes (sym count);
        many' = front_count bs old.bits n bits even;
        few = rw count h.4;
      }

-- ---- what is printed

answers : (s : List ℕ) → answer_of s ≡ text_of (session_of s)
unfolding answer_of
answers s = refl

-- after three good lines nothing may follow
ended : (op : Op) (a b : Operand) (t : List ℕ)
    → session (vector_line a.dims a.indexes a.bits) (vector_line b.dims b.indexes b.bits) (Some op) t
    ≡ cond (not (eqb (length t) 0)) (bad 4) (asks op a b)
ended op a b [] = refl
ended op a b (c ∷ t) = rw (eqb-suc-zero (length t))

pub first_bad : (s : List ℕ) → first_vector s ≡ bad_line → answer_of s ≡ bad_text 1
first_bad s e = answers s ∙ rw e

-- the first line is a vector's, and t follows
module _ (s : List ℕ) {t : List ℕ} {d n : ℕ} {left : Room} (one : Took (first_vector s) d n left) (next : t ≡ rest s) where
  pub second_bad : first_vector t ≡ bad_line → answer_of s ≡ bad_text 2
  second_bad e = answers s ∙ rw (one.line, ← next, e)

  -- the second is, and u follows
  module _ {u : List ℕ} {d' n' : ℕ} {right : Room} (two : Took (first_vector t) d' n' right) (after : u ≡ rest t) where
    pub third_bad : first_name u ≡ None → answer_of s ≡ bad_text 3
    third_bad e = answers s ∙ rw (one.line, ← next, two.line, ← after, e)

    -- the third names an operation, so that v, which follows, decides
    module _ {op : Op} {v : List ℕ} (named : first_name u ≡ Some op) (last : v ≡ rest u) where
      abbrev a : Operand
      a = operand d (take n left.indexes) (take n left.bits)

      abbrev b : Operand
      b = operand d' (take n' right.indexes) (take n' right.bits)

      decided : answer_of s ≡ text_of (cond (not (eqb (length v) 0)) (bad 4) (asks op a b))
      decided = answers s ∙ rw (one.line, ← next, two.line, ← after, named, ← last) (ap text_of (ended op a b v))

      pub extra : not (eqb (length v) 0) ≡ true → answer_of s ≡ bad_text 4
      extra h = decided ∙ rw h

      pub asked : not (eqb (length v) 0) ≡ false → answer_of s ≡ text_of (asks op a b)
      asked h = decided ∙ rw h
