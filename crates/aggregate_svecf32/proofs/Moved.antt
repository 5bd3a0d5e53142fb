-- A move: what is known where its tests find nothing, and what it leaves. Assumes nothing.
use Prim.Native.Nat.{ℕ, ◌+◌, ◌≤◌}
use native.Mathlib.Omega.{arith}
use mathlib.Core.Bool.{Bool, true, not}
use mathlib.Core.Path.{◌≡◌, refl, sym, ap₂}
use lib.Dec.{ltb}
use lib.ListN.{length}
use borrow.Author.Tests.{ltb-false, not-false}
use Rattle.std.specs.Prelude.{Result, Ok}
use Rattle.refusal.specs.Answers.{Valid}
use Rattle.refusal.specs.declared.Refusal.{Refusal}
use Rattle.refusal.specs.declared.Refusal.TheVariants.{NotBegun, Dims, NotNeeded, Room}
use Rattle.refusal.proofs.Chains.{next_valid, refuse_valid}
use Rattle.sparse.proofs.Checks.{size_most}
use Rattle.regions.specs.Capacity.{capacity_for}
use Rattle.regions.specs.Loops.{Fitting, Copied}
use Rattle.regions.specs.Regions.{Pair, inside}
use Rattle.regions.proofs.Capacities.{cap_more}
use Rattle.regions.proofs.Stands.{inside_both}
use Rattle.aggregate_svecf32.specs.States.{header, state_of}
use Rattle.aggregate_svecf32.specs.Calls.{spare, move_of, moved, Moves}
use Rattle.aggregate_svecf32.specs.declared.Header.{Header}
use Rattle.aggregate_svecf32.proofs.Consistent.{Sure, state_sure}
use Rattle.aggregate_svecf32.proofs.Held.{ends_inside}
use Rattle.aggregate_svecf32.proofs.Acting.{acts_copied, one_filled}

-- no more entries than places
pub sure_few : {h : Header} {p : Pair} → Sure h p → (h.len ≤ h.dims) × (h.dims ≤ 1048575)
sure_few s = (omega (arith, s.many, size_most s.fair.sound), s.fair.sound.high)

-- a state that has begun, and a region of other lists that has the capacity for n entries more
pub record Moving (h : Header) (p : Pair) (n : ℕ) (q : Pair) (start long : ℕ) : Type 0 where
  pub begun : h.begun ≡ true
  pub sure : Sure h p
  pub dims : n ≤ h.dims
  pub indexes : start + long ≤ length q.indexes
  pub values : start + long ≤ length q.values
  pub room : capacity_for h.dims (h.len + n) ≤ long

module _ (h : Header) (p : Pair) (n : ℕ) (q : Pair) (start long : ℕ) where
  pub moving : move_of h p n q start long ≡ Valid → Moving h p n q start long
  unfolding move_of
  moving e =
      let a = next_valid (state_of h p) _ e in
      let b = refuse_valid (not h.begun) NotBegun _ a.1 in
      let c = refuse_valid (ltb h.dims n) Dims _ b.1 in
      let d = refuse_valid (spare h n) NotNeeded _ c.1 in
      let f = refuse_valid (not (inside start long q)) (Room long) _ d.1 in
      let g = refuse_valid (ltb long (capacity_for h.dims (h.len + n))) (Room (capacity_for h.dims (h.len + n))) Valid f.1 in
      let i = inside_both start long q (not-false (inside start long q) f.0) in
      record {
        begun = not-false h.begun b.0;
        sure = state_sure h p a.0 (not-false h.begun b.0);
        dims = ltb-false h.dims n c.0;
        indexes = i.0;
        values = i.1;
        room = ltb-false long (capacity_for h.dims (h.len + n)) g.0;
      }

  module _ (m : Moving h p n q start long) where
    -- the new region has room for the entries
    pub move_fits : Fitting h.start h.len p start q
    move_fits =
        let s = m.sure in
        let e = ends_inside s in
        let few = cap_more h.dims h.len n (sure_few s).0 in
        record {
          indexes = e.0;
          values = e.1;
          room = omega (arith, few, m.room, m.indexes);
          room' = omega (arith, few, m.room, m.values);
        }

    pub move_done : move_of h p n q start long ≡ Valid → {o : Pair} → Copied h.start h.len p start q o
        → Moves h p n q start long (Ok 0) (moved h p n start long).header o
    move_done due c = acts_copied (moved h p n start long) refl refl due c

    -- the header that it makes, where the capacity is c
    pub moved_header : {c : ℕ} → c ≡ capacity_for h.dims (h.len + n)
        → (moved h p n start long).header ≡ header start long h.begun h.dims h.len c h.count
    moved_header e = ap₂ (λ (b : Bool) (c : ℕ). header start long b h.dims h.len c h.count) (sym m.begun) (sym e)

  -- two outcomes that a move may have are equal
  pub one_move : {r s : Result ℕ Refusal} {h' h'' : Header} {a b : Pair} → Moves h p n q start long r h' a → Moves h p n q start long s h'' b
      → (r ≡ s) × (h' ≡ h'') × (a ≡ b)
  one_move f g = one_filled f g (λ e. let s = (moving e).sure in (s.many, s.many'))
