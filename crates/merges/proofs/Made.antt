-- What a merge has made by the time it stands at a place: the entries and the turns of the places below. A merge may start at a later place
-- than the first, with `before` union places below it for which it takes no turn. Assumes nothing.
use Rattle.std.proofs.Common.{ℕ, ◌+◌, ◌≤◌, ◌<◌, arith, List, ◌≡◌, refl, sym, ap₂, ◌∙◌, length, Float}
use Rattle.places.specs.Below.{count_below}
use Rattle.places.proofs.Below.{count_none, count_zero, count_hit}
use Rattle.sparse.specs.Vectors.{Vector, size, at, vector_of, in_union}
use Rattle.sparse.specs.Sound.{Sound}
use Rattle.sparse.specs.declared.Cell.{Cell}
use Rattle.sparse.specs.declared.Cell.TheVariants.{Empty}
use Rattle.walks.specs.Walk.{Turned, Put}
use Rattle.walks.specs.declared.Turn.{Turn}
use Rattle.walks.proofs.Stores.{put_most, Written, written_none, written_empty, written_most, written_lengths, written_more}
use Rattle.walks.proofs.Walks.{Quiet, Going, within_dims, going_start, going_more, going_end, left_cell, right_cell, in_union_lem, place_below}
use Rattle.merges.specs.Algebra.{joined, joins, union_turns, room_for}
use Rattle.merges.specs.Loops.{Ready, Fills}
use Rattle.merges.specs.declared.Op.{Op}
use Rattle.merges.specs.declared.Op.TheVariants.{Add, Sub, Mul}

-- what two vectors give at the place k
abbrev pub join_at : Op → Vector → Vector → ℕ → Cell
join_at op a b k = joined op (at a k) (at b k)

pub joined_empty : (op : Op) → joined op Empty Empty ≡ Empty
joined_empty Add = refl
joined_empty Sub = refl
joined_empty Mul = refl

-- the entries below k are written, and with those before the start the turns are the places below k in the union
pub record Made (op : Op) (before : ℕ) (a b : Vector) (oi : List ℕ) (ov : List Float) (oi' : List ℕ) (ov' : List Float) (n turns k : ℕ) : Type 0 where
  pub wrote : Written (join_at op a b) oi ov oi' ov' n k
  pub turned : before + turns ≡ count_below (in_union a b) k

pub made_start : (op : Op) (a b : Vector) {limit : ℕ} {oi : List ℕ} {ov : List Float} → Going a b limit (Made op 0 a b oi ov oi ov 0 0) 0 0
made_start op a b = going_start (record { wrote = written_none; turned = sym (count_zero (in_union a b)) })

module _ {op : Op} {before : ℕ} {a b : Vector} {oi : List ℕ} {ov : List Float} {oi' : List ℕ} {ov' : List Float} {n turns : ℕ} where
  pub made_quiet : Quiet a b (Made op before a b oi ov oi' ov' n turns)
  made_quiet i ea eb m =
      record {
        wrote = written_empty m.wrote (rw (ea, eb) (joined_empty op));
        turned = m.turned ∙ sym (count_none (in_union a b) i (rw (ea, eb)));
      }

  -- one turn more
  pub made_more : Sound a → Sound b → {limit p q : ℕ} → Going a b limit (Made op before a b oi ov oi' ov' n turns) p q
      → {t : Turn} → Turned a.indexes a.values p b.indexes b.values q t → t.place < limit
      → {z : Cell} {n' : ℕ} {oi'' : List ℕ} {ov'' : List Float} → n < length oi → n < length ov → z ≡ joined op t.x t.y
      → Put z t.place n oi' ov' n' oi'' ov'' → Going a b limit (Made op before a b oi ov oi'' ov'' n' (turns + 1)) t.p t.q
  made_more sa sb g {t} u below ri rv e put =
      going_more sa sb g u made_quiet below
      (λ m.
      record {
        wrote = written_more m.wrote ri rv (e ∙ sym (ap₂ (joined op) (left_cell sa sb g u) (right_cell sa sb g u))) put;
        turned = omega (arith, count_hit (in_union a b) t.place (before + turns) (in_union_lem sa sb g u) m.turned);
      })

-- what is made at the end is what is due
pub made_merged : (op : Op) (a b : Vector) {d : ℕ} (k : ℕ) {oi : List ℕ} {ov : List Float} {oi' : List ℕ} {ov' : List Float} {n turns : ℕ}
    → Written (join_at op a b) oi ov oi' ov' n d → turns ≡ count_below (in_union a b) k
    → Fills (vector_of d (join_at op a b)) (count_below (in_union a b) k) oi ov (record { len = n; turns = turns }) oi' ov'
made_merged op a b k w e =
    record { count = sym w.count; turned = e; indexes = rw w.count w.indexes; values = rw w.count w.values }

-- ---- the walk to the end of both: no more entries and turns than entries passed
pub record Merging (op : Op) (before : ℕ) (a b : Vector) (oi : List ℕ) (ov : List Float) (oi' : List ℕ) (ov' : List Float)
    (p q n turns : ℕ) : Type 0 where
  pub few : n ≤ p + q
  pub steps : turns ≤ p + q
  pub going : Going a b a.dims (Made op before a b oi ov oi' ov' n turns) p q

pub merging_start : {op : Op} {a b : Vector} {oi : List ℕ} {ov : List Float} → Merging op 0 a b oi ov oi ov 0 0 0 0
merging_start {op} {a} {b} = record { few = omega arith; steps = omega arith; going = made_start op a b }

module _ {op : Op} {before : ℕ} {a b : Vector} {oi : List ℕ} {ov : List Float} (sa : Sound a) (sb : Sound b)
    {oi' : List ℕ} {ov' : List Float} {p q n turns : ℕ} (m : Merging op before a b oi ov oi' ov' p q n turns) where
  pub merging_more : a.dims ≡ b.dims → {t : Turn} → Turned a.indexes a.values p b.indexes b.values q t
      → {z : Cell} {n' : ℕ} {oi'' : List ℕ} {ov'' : List Float} → n < length oi → n < length ov → z ≡ joined op t.x t.y
      → Put z t.place n oi' ov' n' oi'' ov'' → Merging op before a b oi ov oi'' ov'' t.p t.q n' (turns + 1)
  merging_more same {t} u {z} ri rv e put =
      record {
        few = omega (arith, m.few, u.some, put.count, put_most z n);
        steps = omega (arith, m.steps, u.some);
        going = made_more sa sb m.going u (place_below sa sb m.going u same) ri rv e put;
      }

  pub merging_end : size a + size b ≤ p + q → Made op before a b oi ov oi' ov' n turns a.dims
  merging_end h = going_end sa sb m.going made_quiet h

  -- in the room of a sum there is place for what is written and for all that is left of either side
  pub merging_fits : a.dims ≡ b.dims → let room = room_for Add a.dims (size a) (size b) in
      (n + size a ≤ room + p) × (n + size b ≤ room + q)
  merging_fits same =
      let w = m.going.walk in
      let d = within_dims sa sb m.going refl same (written_most m.going.holds.wrote) in
      (omega (arith, m.few, w.right.within, d.0), omega (arith, m.few, w.left.within, d.1))

-- ---- from the first place on, to outputs of the room that add and sub ask for
module _ {op : Op} {a b : Vector} {oi : List ℕ} {ov : List Float} (r : Ready a b (room_for Add a.dims (size a) (size b)) oi ov)
    {oi' : List ℕ} {ov' : List Float} {p q n turns : ℕ} (m : Merging op 0 a b oi ov oi' ov' p q n turns) where
  pub lengths : (length oi' ≡ length oi) × (length ov' ≡ length ov)
  lengths =
      let f = (merging_fits r.left r.right m r.same).0 in
      let p_most = m.going.walk.left.within in
      written_lengths m.going.holds.wrote (omega (arith, f, p_most, r.room)) (omega (arith, f, p_most, r.room'))

  pub fits : p + q < size a + size b → (n < length oi) × (n < length ov)
  fits h =
      let f = merging_fits r.left r.right m r.same in
      (omega (arith, f.0, f.1, r.room), omega (arith, f.0, f.1, r.room'))

  pub merging_fills : size a + size b ≤ p + q → Fills (joins op a b) (union_turns a b) oi ov (record { len = n; turns = turns }) oi' ov'
  merging_fills h = let d = merging_end r.left r.right m h in made_merged op a b a.dims d.wrote (omega (arith, d.turned))
