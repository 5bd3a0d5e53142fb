-- How far the entries of a line have been read: what that says of the line with each entry more, and where no word is left. Assumes nothing.
use Rattle.std.proofs.Common.{◌≡◌, ℕ, ◌+◌, ◌≤◌, ◌<◌, leb, List, [], ◌∷◌, ◌++◌, append_assoc, append-nil, Some, None, length, take, drop, refl, sym, ap, ◌∙◌, add-one, arith}
use lib.ListN.{set, length-set, take-append-drop}
use lib.Seq.{take-suc-set, drop-set-lt, drop-drop, length-take-le}
use borrow.Author.Tests.{le-leb, lt-leb}
use Rattle.lines.specs.declared.Room.{Room}
use Rattle.lines.specs.Lines.{Line, vector_line, bad_line, pair, push, entry_of, entries_of, shape, Reads}
use Rattle.lines.proofs.Words.{listed, either}

-- a line with entries more in front
abbrev pub front : List ℕ → List ℕ → Line → Line
front is bs (vector_line d js cs) = vector_line d (is ++ js) (bs ++ cs)
front is bs bad_line = bad_line

-- of the words ws, n are read and vs are left; what was read stands in front of what stood in the two lists
pub record Progress (d : ℕ) (ws : List (List ℕ)) (oi₀ ob₀ : List ℕ) (vs : List (List ℕ)) (n : ℕ) (oi ob : List ℕ) : Type 0 where
  pub room : n ≤ 128
  pub indexes : length oi ≡ length oi₀
  pub values : length ob ≡ length ob₀
  pub index_after : drop n oi ≡ drop n oi₀
  pub value_after : drop n ob ≡ drop n ob₀
  pub count : length ws ≡ n + length vs
  pub line : entries_of (Some d) ws ≡ front (take n oi) (take n ob) (entries_of (Some d) vs)

front_none : (l : Line) → l ≡ front [] [] l
front_none (vector_line d is bs) = refl
front_none bad_line = refl

module _ (is bs : List ℕ) (i b : ℕ) where
  front_one : (l : Line) → front is bs (push (Some (pair i b)) l) ≡ front (is ++ i ∷ []) (bs ++ b ∷ []) l
  front_one (vector_line d js cs) = simp append_assoc
  front_one bad_line = refl

in_front : (n : ℕ) (l l₀ : List ℕ) → drop n l ≡ drop n l₀ → l ≡ take n l ++ drop n l₀
in_front n l l₀ e = sym (take-append-drop n l) ∙ ap (λ (t : List ℕ). take n l ++ t) e

after_set : (n x : ℕ) (l l₀ : List ℕ) → drop n l ≡ drop n l₀ → drop (n + 1) (set l n x) ≡ drop (n + 1) l₀
after_set n x l l₀ e =
    drop-set-lt (n + 1) l n x (omega arith) ∙ sym (drop-drop 1 n l) ∙ ap (drop 1) e ∙ drop-drop 1 n l₀

module _ (d : ℕ) (ws : List (List ℕ)) (oi₀ ob₀ : List ℕ) where
  pub begun : Progress d ws oi₀ ob₀ ws 0 oi₀ ob₀
  begun =
      record {
        room = omega arith;
        indexes = refl;
        values = refl;
        index_after = refl;
        value_after = refl;
        count = omega arith;
        line = front_none (entries_of (Some d) ws);
      }

  module _ (v : List ℕ) (vs : List (List ℕ)) (n : ℕ) (oi ob : List ℕ) (p : Progress d ws oi₀ ob₀ (v ∷ vs) n oi ob) where
    pub too_many : n ≡ 128 → listed d ws ≡ bad_line
    too_many e =
        let more : 128 < length ws = omega (arith, p.count) in
        rw (lt-leb (length ws) 128 more)

    pub no_entry : entry_of v ≡ None → listed d ws ≡ bad_line
    unfolding entries_of
    no_entry e = rw (p.line, e) (either (leb (length ws) 128))

    pub entry_read : (i b : ℕ) → entry_of v ≡ Some (pair i b) → n < 128 → n < length oi → n < length ob
        → Progress d ws oi₀ ob₀ vs (n + 1) (set oi n i) (set ob n b)
    unfolding entries_of
    entry_read i b e h hi hb =
        record {
          room = omega arith;
          indexes = rw length-set p.indexes;
          values = rw length-set p.values;
          index_after = after_set n i oi oi₀ p.index_after;
          value_after = after_set n b ob ob₀ p.value_after;
          count = omega (arith, p.count);
          line = p.line ∙ rw (e, front_one, add-one, take-suc-set oi n i hi, take-suc-set ob n b hb);
        }

  pub ended : {n : ℕ} {old new : Room} → oi₀ ≡ old.indexes → ob₀ ≡ old.bits → Progress d ws oi₀ ob₀ [] n new.indexes new.bits
      → 128 ≤ length new.indexes → 128 ≤ length new.bits → Reads (listed d ws) old (Some (shape d n)) new
  unfolding entries_of
  ended {n} {old} {new} is bs p hi hb =
      let few : length ws ≤ 128 = omega (arith, p.count) in
      let i : n ≤ length new.indexes = omega (arith, p.room) in
      let b : n ≤ length new.bits = omega (arith, p.room) in
      rw (le-leb (length ws) 128 few, p.line)
      (simp (append-nil, length-take-le n new.indexes i, length-take-le n new.bits b)
      (refl, in_front n new.indexes old.indexes (rw is at p.index_after), in_front n new.bits old.bits (rw bs at p.value_after), refl, p.room))
