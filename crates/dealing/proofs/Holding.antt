-- A state that took in certain rows, and what row, combine and move make of it. Assumes nothing.
use Prim.Native.Nat.{ℕ, ◌≤◌}
use native.Mathlib.Omega.{arith}
use mathlib.Core.Bool.{true, false}
use mathlib.Core.List.{List, [], ◌∷◌, ◌++◌, append-nil}
use mathlib.Core.Path.{◌≡◌, refl, ap₂, subst}
use Rattle.std.proofs.Common.{Ok, Err}
use lib.ListN.{length, length-append}
use borrow.Author.Tests.{eqb-true}
use Rattle.refusal.specs.Answers.{Checked, Valid}
use Rattle.sparse.specs.Vectors.{Vector, vector}
use Rattle.regions.specs.Capacity.{capacity_for}
use Rattle.regions.specs.Regions.{Pair, Apart}
use Rattle.regions.proofs.Apart.{stands_apart, part_kept, part_inside}
use Rattle.regions.proofs.Capacities.{cap_pos}
use Rattle.aggregate_svecf32.specs.States.{held, state_of}
use Rattle.aggregate_svecf32.specs.Calls.{Deed, Acts, begun, merged, take_of, taken}
use Rattle.aggregate_svecf32.specs.Calls.{row_of, Rows, combine_of, combined, Combines, move_of, Moves}
use Rattle.aggregate_svecf32.specs.declared.Header.{Header}
use Rattle.aggregate_svecf32.proofs.Consistent.{Inside, Fair, Bare, state_sure, fair_state}
use Rattle.aggregate_svecf32.proofs.Joined.{merge_passed}
use Rattle.aggregate_svecf32.proofs.Keeps.{Fits, acts_kept, acts_told, acts_header, acts_indexes, acts_values, fits_keeps}
use Rattle.aggregate_svecf32.proofs.Keeps.{row_tests, row_fits, combine_tests, combined_fits, combine_leaves, moved_fits}
use Rattle.aggregate_svecf32.proofs.Moved.{moving}
use Rattle.dealing.specs.Runs.{Same, Told, taken_in}
use Rattle.dealing.proofs.Added.{SumOf, sum_one, sum_both}

-- ---- a state that took in the rows o

-- none came, or the state passes its tests, counts them and holds their sum
pub data Holding (p : Pair) (h : Header) : List Vector → Type 0 where
  bare : h.begun ≡ false → Bare h → Holding p h []
  full : {o : List Vector} → h.begun ≡ true → state_of h p ≡ Valid → h.count ≡ length o → SumOf (held h p) o → Holding p h o

-- a region is not empty once its state has begun
region_some : (h : Header) (p : Pair) → Fair h p → 1 ≤ h.length
region_some h p f =
    let own = eqb-true (capacity_for h.dims h.capacity) h.capacity f.capacity in
    omega (arith, f.fits, cap_pos h.dims h.capacity f.sound.low)

-- where its region is as it was, so is the state
module _ (p q : Pair) (h : Header) where
  held_kept : Same h.start h.length p q → h.len ≤ h.length → held h q ≡ held h p
  held_kept same few =
      ap₂ (vector h.dims) (part_kept h.start h.length h.len p.indexes q.indexes few same.0)
      (part_kept h.start h.length h.len p.values q.values few same.1)

  pub holding_kept : (o : List Vector) → (h.begun ≡ true → Same h.start h.length p q) → Holding p h o → Holding q h o
  holding_kept o kept (bare t z) = bare t z
  holding_kept o kept (full t s c v) =
      let same = kept t in
      let y = state_sure h p s t in
      let f = y.fair in
      let e = held_kept same (omega (arith, f.room, f.fits)) in
      let i : Inside h q = record {
        indexes = part_inside h.start h.length p.indexes q.indexes (region_some h p f) same.0 y.inside.indexes;
        values = part_inside h.start h.length p.values q.values (region_some h p f) same.1 y.inside.values;
      } in
      let g : Fair h q = record {
        capacity = f.capacity;
        room = f.room;
        fits = f.fits;
        some = f.some;
        most = f.most;
        sound = rw e f.sound;
      } in
      full {o = o} t (fair_state h q t i g) c (rw e v)

-- ---- what a call leaves

-- of the lists p the call left q: the state h lies there in the region of n places from `start` on and took in the rows o, and no other part changed
pub record Lies (start n : ℕ) (p q : Pair) (h : Header) (o : List Vector) : Type 0 where
  pub holding : Holding q h o
  pub begins : h.start ≡ start
  pub long : h.length ≡ n
  pub others : (s k : ℕ) → Apart start n s k → Same s k p q

pub lies_same : (p : Pair) (h : Header) (o : List Vector) → Holding p h o → Lies h.start h.length p p h o
lies_same p h o g = record { holding = g; begins = refl; long = refl; others = λ s k a. (refl, refl) }

-- a deed is done whose vector is the sum of the rows o
deed_lies : {h : Header} {due : Checked} {d : Deed} {p : Pair} {r : Told} {k : Header} {q : Pair} → Acts h due d p r k q → due ≡ Valid → Fits d p
    → (o : List Vector) → SumOf d.vector o → d.header.count ≡ length o → Lies d.header.start d.header.length p q d.header o
deed_lies {d = d} {p = p} {q = q} acts e f o s c =
    let k = fits_keeps acts e f in
    let room : d.room ≤ d.header.length = omega (arith, f.within, f.fits) in
    record {
      holding = full {o = o} k.begun k.state c (rw k.holds s);
      begins = refl;
      long = refl;
      others = λ s n apart. (
        stands_apart (acts_indexes acts e) d.header.length s n room apart,
        stands_apart (acts_values acts e) d.header.length s n room apart,
      );
    }

-- ---- a vector comes to a state

-- it is the sum of the rows o', of which there are `more`
module _ (p : Pair) (h : Header) (v : Vector) (more : ℕ) (o' : List Vector) (s : SumOf v o') (c : more ≡ length o')
    {due : Checked} {r : Told} {g : Header} {q : Pair} (passes : due ≡ Valid) where
  take_lies : (o : List Vector) → Holding p h o → Acts h due (taken h p v more) p r g q → Fits (taken h p v more) p → take_of h v more ≡ Valid
      → Lies h.start h.length p q (taken h p v more).header (o' ++ o)
  take_lies o (bare t z) acts f e =
      let d : taken h p v more ≡ begun h v more = rw t in
      let a : Acts h due (begun h v more) p r g q = subst (λ (d : Deed). Acts h due d p r g q) d acts in
      rw (d, append-nil o') (deed_lies a passes (subst (λ (d : Deed). Fits d p) d f) o' s c)
  take_lies o (full t y n u) acts f e =
      let d : taken h p v more ≡ merged h p v more = rw t in
      let a : Acts h due (merged h p v more) p r g q = subst (λ (d : Deed). Acts h due d p r g q) d acts in
      let m = merge_passed h v more (rw t at e) in
      rw d
      (deed_lies a passes (subst (λ (d : Deed). Fits d p) d f) (o' ++ o) (sum_both (held h p) v o o' u s m.0)
      (rw length-append (omega arith)))

-- ---- the calls

-- the rows of a state, after those of another were to come to it
abbrev pub took : Told → List Vector → List Vector → List Vector
took (Ok turns) o' o = o' ++ o
took (Err e) o' o = o

module _ (p : Pair) (h : Header) (o : List Vector) (hold : Holding p h o) where
  pub row_lies : (v : Vector) (r : Told) (k : Header) (q : Pair) → Rows h p v r k q → Lies h.start h.length p q k (taken_in r v o)
  row_lies v r g q acts = go (row_of h p v) refl
    where
      go : (due : Checked) → row_of h p v ≡ due → Lies h.start h.length p q g (taken_in r v o)
      go (Err n) e = let k = acts_kept acts e in rw (k.0, k.1, k.2) (lies_same p h o hold)
      go (Ok tt) e =
          let t = row_tests h p v e in
          rw (acts_told acts e, acts_header acts e) (take_lies p h v 1 (v ∷ []) (sum_one v t.0) refl e o hold acts (row_fits h p v e) t.2)

  pub combine_lies : (l : Pair) (k : Header) (o' : List Vector) → Holding l k o' → (r : Told) (g : Header) (q : Pair) → Combines h p k l r g q
      → Lies h.start h.length p q g (took r o' o)
  combine_lies l k o' second r g q acts = go (combine_of h p k l) refl o' second
    where
      go : (due : Checked) → combine_of h p k l ≡ due → (o' : List Vector) → Holding l k o' → Lies h.start h.length p q g (took r o' o)
      go (Err n) e o' second = let k = acts_kept acts e in rw (k.0, k.1, k.2) (lies_same p h o hold)
      go (Ok tt) e o' (bare t z) = let y = combine_leaves h p k l acts e t in rw (y.0, y.1, y.2) (lies_same p h o hold)
      go (Ok tt) e o' (full t y n u) =
          let d : combined h p k l ≡ taken h p (held k l) k.count = rw t in
          let a = subst (λ (d : Deed). Acts h (combine_of h p k l) d p r g q) d acts in
          let f = subst (λ (d : Deed). Fits d p) d (combined_fits h p k l t e) in
          rw (acts_told a e, acts_header a e) (take_lies p h (held k l) k.count o' u n e o hold a f (rw t at (combine_tests h p k l e).2))

  -- a move leaves the state in its new region, or where it was
  abbrev pub Went : ℕ → ℕ → Pair → Told → Header → Pair → Type 0
  Went start long q (Ok turns) k q' = Lies start long q q' k o
  Went start long q (Err e) k q' = (k ≡ h) × (q' ≡ q)

  pub move_lies : (more : ℕ) (q : Pair) (start long : ℕ) (r : Told) (k : Header) (q' : Pair) → Moves h p more q start long r k q' → Went start long q r k q'
  move_lies more q start long r g q' acts = go (move_of h p more q start long) refl
    where
      go : (due : Checked) → move_of h p more q start long ≡ due → Went start long q r g q'
      go (Err n) e = let k = acts_kept acts e in rw k.0 (k.1, k.2)
      go (Ok tt) e = rw (acts_told acts e, acts_header acts e) (deed_lies acts e (moved_fits h p more q start long e) o (sum o hold) (count o hold))
        where
          some : 1 ≤ h.count
          some = (moving h p more q start long e).sure.fair.some

          sum : (o : List Vector) → Holding p h o → SumOf (held h p) o
          sum o (bare t z) = absurd (omega (arith, z.count, some))
          sum o (full t y n u) = u

          count : (o : List Vector) → Holding p h o → h.count ≡ length o
          count o (bare t z) = absurd (omega (arith, z.count, some))
          count o (full t y n u) = n
