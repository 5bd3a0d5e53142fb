-- A state that a call hands back passes its tests in the lists that the call leaves, and holds the vector that the call wrote. Assumes nothing.
use Prim.Native.Nat.{ℕ, ◌+◌, ◌≤◌}
use native.Mathlib.Omega.{arith}
use mathlib.Core.Bool.{Bool, true, false, cond}
use mathlib.Core.Logic.{⊎_elim}
use mathlib.Core.Path.{◌≡◌, refl, sym, ap₂}
use lib.Dec.{ltb}
use lib.ListN.{length}
use borrow.Author.Tests.{ltb-false}
use Rattle.std.specs.Prelude.{Result, Ok, Err}
use Rattle.refusal.specs.Answers.{Checked, Valid}
use Rattle.refusal.specs.declared.Refusal.{Refusal}
use Rattle.refusal.specs.declared.Refusal.TheVariants.{Room}
use Rattle.refusal.proofs.Chains.{next_valid, refuse_valid}
use Rattle.sparse.specs.Vectors.{Vector, vector, size}
use Rattle.sparse.specs.Calls.{checked_of}
use Rattle.sparse.specs.Sound.{Sound}
use Rattle.sparse.proofs.Checks.{sound, size_most}
use Rattle.merges.specs.Algebra.{joins}
use Rattle.merges.specs.declared.Op.TheVariants.{Add}
use Rattle.merges.proofs.Meaning.{joins_valid}
use Rattle.merges.proofs.Sizes.{joins_most, joins_size}
use Rattle.regions.specs.Capacity.{capacity_for, is_capacity}
use Rattle.regions.specs.Regions.{Pair, pair, Stands}
use Rattle.regions.proofs.Capacities.{cap_self, cap_le, cap_more}
use Rattle.regions.proofs.Stands.{stands_none}
use Rattle.headers.specs.Headers.{most_rows}
use Rattle.aggregate_svecf32.specs.States.{held, state_of}
use Rattle.aggregate_svecf32.specs.Calls.{Deed, Acts, begin_of, begun, merge_of, merged, take_of, taken}
use Rattle.aggregate_svecf32.specs.Calls.{row_of, Rows, combine_of, combined, Combines, move_of, moved, Moves}
use Rattle.aggregate_svecf32.specs.declared.Header.{Header}
use Rattle.aggregate_svecf32.proofs.Consistent.{Inside, state_inside, state_sure, fair_state}
use Rattle.aggregate_svecf32.proofs.Joined.{room_or_all, merge_passed}
use Rattle.aggregate_svecf32.proofs.Moved.{moving, sure_few}

-- ---- a deed that is done

-- the vector of a deed fits in its room, and its header in the lists p
pub record Fits (d : Deed) (p : Pair) : Type 0 where
  pub begun : d.header.begun ≡ true
  pub dims : d.header.dims ≡ d.vector.dims
  pub len : d.header.len ≡ size d.vector
  pub inside : Inside d.header p
  pub capacity : is_capacity d.header.dims d.header.capacity ≡ true
  pub short : size d.vector ≤ d.room
  pub within : d.room ≤ d.header.capacity
  pub fits : d.header.capacity ≤ d.header.length
  pub some : 1 ≤ d.header.count
  pub most : d.header.count ≤ most_rows
  pub sound : Sound d.vector

-- the header of a deed is the state's, has begun, passes its tests in the lists q, and holds the vector of the deed
pub record Keeps (d : Deed) (r : Result ℕ Refusal) (h' : Header) (q : Pair) : Type 0 where
  pub told : r ≡ Ok d.turns
  pub header : h' ≡ d.header
  pub begun : d.header.begun ≡ true
  pub state : state_of d.header q ≡ Valid
  pub holds : held d.header q ≡ d.vector

-- what stands in the lists is held
pub held_stands : (g : Header) {room : ℕ} {w : Vector} {p q : Pair} → g.dims ≡ w.dims → g.len ≡ size w → size w ≡ length w.values
    → Stands g.start room w.indexes p.indexes q.indexes → Stands g.start room w.values p.values q.values
    → held g q ≡ w
held_stands g {w = w} d n even is vs =
    rw (d, n) (ap₂ (vector w.dims) is.here (rw even vs.here))

-- after a refusal the state and the lists are as they were
pub acts_kept : {h : Header} {due : Checked} {d : Deed} {p : Pair} {r : Result ℕ Refusal} {h' : Header} {q : Pair} {x : Refusal} → Acts h due d p r h' q → due ≡ Err x
    → (r ≡ Err x) × (h' ≡ h) × (q ≡ p)
acts_kept acts e = (rw e at acts.answer, rw e at acts.header, ap₂ pair (rw e at acts.indexes) (rw e at acts.values))

-- where the tests find nothing the vector stands in the lists, and the state passes
module _ {h : Header} {due : Checked} {d : Deed} {p : Pair} {r : Result ℕ Refusal} {h' : Header} {q : Pair} (acts : Acts h due d p r h' q)
    (e : due ≡ Valid) where
  pub acts_told : r ≡ Ok d.turns
  acts_told = rw e at acts.answer

  pub acts_header : h' ≡ d.header
  acts_header = rw e at acts.header

  pub acts_indexes : Stands d.header.start d.room d.vector.indexes p.indexes q.indexes
  acts_indexes = rw e at acts.indexes

  pub acts_values : Stands d.header.start d.room d.vector.values p.values q.values
  acts_values = rw e at acts.values

  pub fits_keeps : Fits d p → Keeps d r h' q
  fits_keeps f =
      let is = acts_indexes in
      let vs = acts_values in
      let i = f.inside in
      let e : held d.header q ≡ d.vector = held_stands d.header f.dims f.len f.sound.even is vs in
      record {
        told = acts_told;
        header = acts_header;
        begun = f.begun;
        state = fair_state d.header q f.begun
            (record { indexes = omega (arith, is.long, i.indexes); values = omega (arith, vs.long, i.values) })
            (record {
              capacity = f.capacity;
              room = omega (arith, f.len, f.short, f.within);
              fits = f.fits;
              some = f.some;
              most = f.most;
              sound = rw e f.sound;
            });
        holds = e;
      }

-- ---- a vector comes to a state

-- the state and the vector passed, and the vector stands for some rows, no more than a count can be
module _ (h : Header) (p : Pair) (v : Vector) (more : ℕ) (state : state_of h p ≡ Valid) (row : Sound v) (some : 1 ≤ more)
    (most : more ≤ most_rows) where
  begun_fits : begin_of h v ≡ Valid → Fits (begun h v more) p
  begun_fits e =
      let c = capacity_for v.dims (size v) in
      let i = state_inside h p state in
      record {
        begun = refl;
        dims = refl;
        len = refl;
        inside = record { indexes = i.indexes; values = i.values };
        capacity = cap_self v.dims (size v);
        short = omega arith;
        within = cap_le v.dims (size v) (size_most row);
        fits = ltb-false h.length c (refuse_valid (ltb h.length c) (Room c) Valid e).0;
        some = some;
        most = most;
        sound = row;
      }

  merged_fits : h.begun ≡ true → merge_of h v more ≡ Valid → Fits (merged h p v more) p
  merged_fits t e =
      let s = state_sure h p state t in
      let f = s.fair in
      let i = s.inside in
      let m = merge_passed h v more e in
      let sum = joins Add (held h p) v in
      let both : size sum ≤ size (held h p) + size v = joins_size Add (held h p) v f.sound row m.0 in
      let all : size sum ≤ h.dims = joins_most Add (held h p) v in
      record {
        begun = refl;
        dims = refl;
        len = refl;
        inside = record { indexes = i.indexes; values = i.values };
        capacity = f.capacity;
        short = ⊎_elim (λ l. omega (arith, f.room, s.many)) (λ l. omega arith) (room_or_all h (size v) m.2);
        within = omega arith;
        fits = f.fits;
        some = omega (arith, f.some);
        most = ltb-false most_rows (h.count + more) m.1;
        sound = sound sum (joins_valid Add (held h p) v f.sound row);
      }

  pub taken_fits : take_of h v more ≡ Valid → Fits (taken h p v more) p
  taken_fits = go h.begun refl
    where
      go : (b : Bool) → h.begun ≡ b → cond b (merge_of h v more) (begin_of h v) ≡ Valid → Fits (cond b (merged h p v more) (begun h v more)) p
      go true t e = merged_fits t e
      go false t e = begun_fits e

-- ---- the calls
module _ (h : Header) (p : Pair) where
  pub row_tests : (v : Vector) → row_of h p v ≡ Valid → (checked_of v ≡ Valid) × (state_of h p ≡ Valid) × (take_of h v 1 ≡ Valid)
  unfolding row_of
  row_tests v e =
      let a = next_valid (checked_of v) _ e in
      let b = next_valid (state_of h p) _ a.1 in
      (a.0, b.0, b.1)

  pub row_fits : (v : Vector) → row_of h p v ≡ Valid → Fits (taken h p v 1) p
  row_fits v e =
      let t = row_tests v e in
      taken_fits h p v 1 t.1 (sound v t.0) (omega arith) (omega arith) t.2

  pub combine_tests : (g : Header) (o : Pair) → combine_of h p g o ≡ Valid
      → (state_of g o ≡ Valid) × (state_of h p ≡ Valid) × (cond g.begun (take_of h (held g o) g.count) Valid ≡ Valid)
  unfolding combine_of
  combine_tests g o e =
      let a = next_valid (state_of g o) _ e in
      let b = next_valid (state_of h p) _ a.1 in
      (a.0, b.0, b.1)

  pub combined_fits : (g : Header) (o : Pair) → g.begun ≡ true → combine_of h p g o ≡ Valid → Fits (combined h p g o) p
  combined_fits g o t e =
      let c = combine_tests g o e in
      let f = (state_sure g o c.0 t).fair in
      let due : take_of h (held g o) g.count ≡ Valid = rw t at c.2 in
      rw t (taken_fits h p (held g o) g.count c.1 f.sound f.some f.most due)

  pub moved_fits : (n : ℕ) (q : Pair) (start long : ℕ) → move_of h p n q start long ≡ Valid → Fits (moved h p n start long) q
  moved_fits n q start long e =
      let m = moving h p n q start long e in
      let s = m.sure in
      let f = s.fair in
      record {
        begun = refl;
        dims = refl;
        len = sym s.many;
        inside = record { indexes = m.indexes; values = m.values };
        capacity = cap_self h.dims (h.len + n);
        short = omega (arith, s.many);
        within = cap_more h.dims h.len n (sure_few s).0;
        fits = m.room;
        some = f.some;
        most = f.most;
        sound = f.sound;
      }

  -- so a state that is handed back passes
  pub row_keeps : (v : Vector) {r : Result ℕ Refusal} {h' : Header} {q : Pair} → Rows h p v r h' q → row_of h p v ≡ Valid
      → Keeps (taken h p v 1) r h' q
  row_keeps v acts e = fits_keeps acts e (row_fits v e)

  pub move_keeps : (n : ℕ) (q : Pair) (start long : ℕ) {r : Result ℕ Refusal} {h' : Header} {o : Pair} → Moves h p n q start long r h' o
      → move_of h p n q start long ≡ Valid → Keeps (moved h p n start long) r h' o
  move_keeps n q start long acts e = fits_keeps acts e (moved_fits n q start long e)

  module _ (g : Header) (o : Pair) {r : Result ℕ Refusal} {h' : Header} {q : Pair} (acts : Combines h p g o r h' q) (e : combine_of h p g o ≡ Valid) where
    pub combine_keeps : g.begun ≡ true → Keeps (combined h p g o) r h' q
    combine_keeps t = fits_keeps acts e (combined_fits g o t e)

    -- a second state without rows changes nothing
    pub combine_leaves : g.begun ≡ false → (r ≡ Ok 0) × (h' ≡ h) × (q ≡ p)
    combine_leaves t =
        let is = rw t at (acts_indexes acts e) in
        let vs = rw t at (acts_values acts e) in
        (rw t at (acts_told acts e), rw t at (acts_header acts e), ap₂ pair (stands_none is) (stands_none vs))

    -- so in both cases
    pub combine_passes : state_of (combined h p g o).header q ≡ Valid
    combine_passes = go g.begun refl
      where
        go : (b : Bool) → g.begun ≡ b → state_of (combined h p g o).header q ≡ Valid
        go true t = (combine_keeps t).state
        go false t = rw (t, (combine_leaves t).2) (combine_tests g o e).1
