-- A state that has begun merges a vector: what it refuses, that there is room for the merge, and what is left. Assumes nothing.
use Prim.Native.Nat.{ℕ, ◌+◌, ◌-◌, ◌≤◌}
use native.Mathlib.Omega.{arith}
use mathlib.Core.Bool.{Bool, true, false, not, ◌&&◌, ◌||◌}
use mathlib.Core.List.{List}
use mathlib.Core.Logic.{◌⊎◌, inl, inr, ⊎_elim}
use mathlib.Core.Path.{◌≡◌, refl, sym, ap₂, subst, ◌∙◌}
use lib.Dec.{eqb, leb, ltb}
use lib.ListN.{length, take}
use lib.Seq.{take-take}
use lib.Ieee.{Float}
use borrow.Author.Tests.{eq-eqb, ne_eqb, lt-ltb, le-ltb, le-leb, lt-leb, eqb-true, leb-true, not-false}
use Rattle.places.proofs.Below.{le_or_lt}
use Rattle.std.specs.Prelude.{Ok, Err}
use Rattle.refusal.specs.Answers.{Valid, refuse}
use Rattle.refusal.specs.declared.Refusal.TheVariants.{Differ, Need, Count}
use Rattle.refusal.proofs.Chains.{refuse_valid}
use Rattle.sparse.specs.Vectors.{Vector, vector, size}
use Rattle.sparse.proofs.Entries.{as_many}
use Rattle.merges.specs.Algebra.{joins}
use Rattle.merges.specs.declared.Both.{Both}
use Rattle.merges.specs.declared.Op.TheVariants.{Add}
use Rattle.merges.proofs.Made.{join_at}
use Rattle.regions.specs.Capacity.{capacity_for}
use Rattle.regions.specs.Regions.{Pair, pair, part}
use Rattle.regions.proofs.Stands.{lent, part_length, stands_lent}
use Rattle.headers.specs.Headers.{too_many}
use Rattle.in_place.specs.Loops.{Roomy, Grown}
use Rattle.in_place.specs.Turns.{row_turns}
use Rattle.aggregate_svecf32.specs.States.{header, held}
use Rattle.aggregate_svecf32.specs.Calls.{Acts, needs, spare, merge_of, merged}
use Rattle.aggregate_svecf32.specs.Loops.{Given}
use Rattle.aggregate_svecf32.specs.declared.Header.{Header}
use Rattle.aggregate_svecf32.proofs.Consistent.{Sure, state_sure}
use Rattle.aggregate_svecf32.proofs.Acting.{acts_done}

-- ---- NEED is what has no room

below_not : (m n : ℕ) → ltb m n ≡ not (leb n m)
below_not m n = ⊎_elim (λ h. rw (le-leb n m h) (le-ltb m n h)) (λ h. rw (lt-leb n m h) (lt-ltb m n h)) (le_or_lt n m)

needs_spare : (h : Header) (n : ℕ) → needs h n ≡ not (spare h n)
needs_spare h n = rw (below_not (h.capacity - h.len) n) (go (eqb h.capacity h.dims) (leb n (h.capacity - h.len)))
  where
    go : (a b : Bool) → (not a && not b) ≡ not (a || b)
    go true b = refl
    go false b = refl

pub room_or_all : (h : Header) (n : ℕ) → spare h n ≡ true → (n ≤ h.capacity - h.len) ⊎ (h.capacity ≡ h.dims)
room_or_all h n = go (eqb h.capacity h.dims) (leb n (h.capacity - h.len)) refl refl
  where
    go : (a b : Bool) → eqb h.capacity h.dims ≡ a → leb n (h.capacity - h.len) ≡ b → (a || b) ≡ true
        → (n ≤ h.capacity - h.len) ⊎ (h.capacity ≡ h.dims)
    go true b e f t = inr (eqb-true h.capacity h.dims e)
    go false b e f t = inl (leb-true n (h.capacity - h.len) (f ∙ t))

-- ---- the tests
module _ (h : Header) (v : Vector) (more : ℕ) where
  pub merge_differ : (h.dims ≡ v.dims → ⊥) → merge_of h v more ≡ Err Differ
  merge_differ other = rw (ne_eqb h.dims v.dims other)

  module _ (same : h.dims ≡ v.dims) where
    pub merge_count : too_many h.count more ≡ true → merge_of h v more ≡ Err Count
    merge_count many = rw (eq-eqb h.dims v.dims same, many)

    module _ (few : too_many h.count more ≡ false) where
      pub merge_need : spare h (size v) ≡ false → merge_of h v more ≡ Err (Need (capacity_for h.dims (h.len + size v)))
      merge_need e = rw (eq-eqb h.dims v.dims same, few, needs_spare h (size v), e)

      pub merge_passes : spare h (size v) ≡ true → merge_of h v more ≡ Valid
      merge_passes e = rw (eq-eqb h.dims v.dims same, few, needs_spare h (size v), e)

  -- where the tests find nothing each of them failed
  pub merge_passed : merge_of h v more ≡ Valid → (h.dims ≡ v.dims) × (too_many h.count more ≡ false) × (spare h (size v) ≡ true)
  merge_passed e =
      let c = capacity_for h.dims (h.len + size v) in
      let need = refuse (needs h (size v)) (Need c) Valid in
      let few = refuse (too_many h.count more) Count need in
      let a = refuse_valid (not (eqb h.dims v.dims)) Differ few e in
      let b = refuse_valid (too_many h.count more) Count need a.1 in
      let d = refuse_valid (needs h (size v)) (Need c) Valid b.1 in (
        eqb-true h.dims v.dims (not-false (eqb h.dims v.dims) a.0),
        b.0,
        not-false (spare h (size v)) (sym (needs_spare h (size v)) ∙ d.0),
      )

-- ---- the region, lent as the places from its start up to its end

abbrev pub whole : Header → ℕ
whole h = (h.start + h.length) - h.start

-- the state's vector as it lies in front of its region
abbrev pub lies : Header → Pair → ℕ → Vector
lies h p d = vector d (take h.len (part h.start (whole h) p.indexes)) (take h.len (part h.start (whole h) p.values))

module _ (h : Header) (p : Pair) (v : Vector) (more : ℕ) (begun : h.begun ≡ true) (g : Given h p v) (same : h.dims ≡ v.dims) where
  sure : Sure h p
  sure = state_sure h p g.state begun

  short : h.len ≤ whole h
  short = let f = sure.fair in omega (arith, f.room, f.fits)

  is_held : lies h p v.dims ≡ held h p
  is_held =
      rw (← same)
      (ap₂ (vector h.dims) (take-take h.len (whole h) _ short) (take-take h.len (whole h) _ short))

  pub merge_room : h.len ≤ h.capacity
  merge_room = sure.fair.room

  pub merge_roomy : spare h (size v) ≡ true
      → Roomy (lies h p v.dims) v h.capacity (part h.start (whole h) p.indexes) (part h.start (whole h) p.values)
  merge_roomy e =
      let f = sure.fair in
      let i = sure.inside in
      let n = sure.many in
      rw is_held
      (record {
        left = f.sound;
        right = g.row;
        same = same;
        spare = ⊎_elim (λ l. omega (arith, f.room)) (λ l. omega arith) (room_or_all h (size v) e);
        long = omega (arith, f.fits, part_length h.start (whole h) p.indexes (omega (arith, i.indexes)));
        long' = omega (arith, f.fits, part_length h.start (whole h) p.values (omega (arith, i.values)));
      })

  -- the region holds the sum of the vector a and v
  abbrev Summed : Vector → Both → List ℕ → List Float → Type 0
  Summed a = Grown (joins Add a v) (row_turns a v) h.capacity (part h.start (whole h) p.indexes) (part h.start (whole h) p.values)

  pub merge_done : too_many h.count more ≡ false → spare h (size v) ≡ true → {m : Both} {yi : List ℕ} {yv : List Float}
      → Summed (lies h p v.dims) m yi yv
      → Acts h (merge_of h v more) (merged h p v more) p (Ok m.turns)
      (header h.start h.length h.begun h.dims m.len h.capacity (h.count + more))
      (pair (lent h.start (whole h) p.indexes yi) (lent h.start (whole h) p.values yv))
  merge_done few e {m} {yi} {yv} grown =
      let i = sure.inside in
      let f = sure.fair in
      let d = merged h p v more in
      let sum = joins Add (held h p) v in
      let w : Summed (held h p) m yi yv = subst (λ (a : Vector). Summed a m yi yv) is_held grown in
      let many : length sum.values ≡ size sum = as_many (join_at Add (held h p) v) h.dims in
      let turns : m.turns ≡ d.turns = w.turned in
      let same : header h.start h.length h.begun h.dims m.len h.capacity (h.count + more) ≡ d.header =
      ap₂ (λ (b : Bool) (n : ℕ). header h.start h.length b h.dims n h.capacity (h.count + more)) begun w.count
      in
      subst
      (λ (g : Header).
      Acts h (merge_of h v more) d p (Ok m.turns) g (pair (lent h.start (whole h) p.indexes yi) (lent h.start (whole h) p.values yv)))
      (sym same)
      (rw turns
      (acts_done d passes
      (stands_lent {k = whole h} (omega (arith, i.indexes)) (omega (arith, f.fits)) w.fits w.indexes)
      (stands_lent {k = whole h} (omega (arith, i.values)) (omega (arith, f.fits)) (omega (arith, w.fits)) w.values)))
    where
      passes : merge_of h v more ≡ Valid
      passes = merge_passes h v more same few e
