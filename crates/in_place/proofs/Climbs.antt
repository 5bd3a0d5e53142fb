-- A merge of a row with entries that were moved to the far end of the room: it reads them there, writes what they give to the front, and never
-- writes over one that it has not read. Assumes nothing.
use Prim.Native.Nat.{ℕ, suc, ◌+◌, ◌-◌, ◌≤◌, ◌<◌}
use native.Mathlib.Nat.{add-zero}
use native.Mathlib.Omega.{arith}
use mathlib.Core.List.{List, ◌++◌}
use mathlib.Core.Path.{◌≡◌, refl, sym, ap, ◌∙◌}
use lib.ListN.{length, take, drop, length-drop}
use lib.Seq.{take_at, length-take-le, get_or-drop}
use lib.Ieee.{Float}
use Rattle.places.specs.Below.{count_below}
use Rattle.sparse.specs.Cells.{indexes_below, values_below}
use Rattle.sparse.specs.Vectors.{Vector, vector, size, in_union}
use Rattle.sparse.specs.Sound.{Sound}
use Rattle.sparse.proofs.Checks.{size_most}
use Rattle.sparse.proofs.Entries.{as_many}
use Rattle.walks.specs.Walk.{Standing, Turned}
use Rattle.walks.proofs.Stores.{written_lengths}
use Rattle.walks.proofs.Walks.{Going}
use Rattle.merges.specs.Algebra.{joins}
use Rattle.merges.specs.declared.Op.TheVariants.{Add}
use Rattle.merges.proofs.Made.{join_at, Made, Merging, merging_more, merging_end, merging_fits}
use Rattle.regions.specs.Regions.{part}
use Rattle.regions.proofs.Stands.{past_front, stands_front}
use Rattle.copies.specs.Copies.{Clear}
use Rattle.strides.specs.Strides.{Steady, Stepped, step, Chain}
use Rattle.copies.specs.declared.Step.{Step}
use Rattle.strides.proofs.Chains.{chain_keeps}
use Rattle.in_place.specs.Turns.{first_index, row_turns}
use Rattle.in_place.specs.Loops.{around, Raised, Grown}
use Rattle.in_place.proofs.Rest.{turned_left, around_from}
use Rattle.in_place.proofs.First.{first_most, first_split, written_before, turns_from}

-- the union places below the row's first index
abbrev pub below : Vector → Vector → ℕ
below a b = count_below (in_union a b) (first_index b)

-- the merge has passed p of the state's entries, the next of which stands at gap + p
pub record Climbing (a b : Vector) (low gap : ℕ) (si : List ℕ) (sv : List Float) (si' : List ℕ) (sv' : List Float) (at q n turns : ℕ) : Type 0 where
  pub p : ℕ
  pub from : low ≤ p
  pub stands : at ≡ gap + p
  pub merging : Merging Add (below a b) a b si sv si' sv' p q n turns

-- the entries as they lie in the lists when the merge begins
abbrev pub lying : ℕ → ℕ → ℕ → ℕ → List ℕ → List Float → Vector
lying d low gap cap si sv = vector d (around low gap cap si) (around low gap cap sv)

module _ {d : ℕ} {b : Vector} {low gap cap : ℕ} {si : List ℕ} {sv : List Float} (r : Raised (lying d low gap cap si sv) b low gap cap si sv) where
  abbrev a : Vector
  a = lying d low gap cap si sv

  sa : Sound a
  sa = r.roomy.left

  sb : Sound b
  sb = r.roomy.right

  -- the entries below the row's first index stand in front
  pub climbing_start : Climbing a b low gap si sv si sv (gap + low) 0 low 0
  climbing_start =
      let cut = r.split in
      let fits = r.roomy in
      let n = r.far in
      let i : low ≤ length si = omega (arith, cut.within, fits.long) in
      let v : low ≤ length sv = omega (arith, cut.within, fits.long') in
      record {
        p = low;
        from = omega arith;
        stands = refl;
        merging = record {
          few = omega arith;
          steps = omega arith;
          going = record {
            front = first_index b;
            inside = omega (arith, first_most b sb, r.roomy.same);
            walk = record { left = cut; right = first_split b sb };
            holds = record {
              wrote = written_before a b sa sb cut si sv
                  (take_at (take low si) _ low (length-take-le low si i))
                  (take_at (take low sv) _ low (length-take-le low sv v));
              turned = add-zero (below a b);
            };
          };
        };
      }

  module _ {si' : List ℕ} {sv' : List Float} {at q n turns : ℕ} (c : Climbing a b low gap si sv si' sv' at q n turns) where
    g : Going a b d (Made Add (below a b) a b si sv si' sv' n turns) c.p q
    g = c.merging.going

    pub reached : at ≤ cap
    reached = omega (arith, c.stands, g.walk.left.within, r.far)

    -- in the room there is place for what is written and for all that is left of either side
    fits : (n + size a ≤ cap + c.p) × (n + size b ≤ cap + q)
    fits = let f = merging_fits sa sb c.merging r.roomy.same in (omega (arith, r.roomy.spare, f.0), omega (arith, r.roomy.spare, f.1))

    -- what is written does not reach what is read next
    pub clear : n ≤ at
    clear = omega (arith, c.stands, r.far, fits.0)

    pub lengths : (length si' ≡ length si) × (length sv' ≡ length sv)
    lengths =
        written_lengths g.holds.wrote (omega (arith, clear, reached, r.roomy.long)) (omega (arith, clear, reached, r.roomy.long'))

    -- what is read next is what is left of the entries
    left : {A : Type 0} (old new xs : List A) → cap ≤ length old → new ≡ xs ++ drop n old → length xs ≡ n
        → part at (cap - at) new ≡ drop c.p (around low gap cap old)
    left old new xs long e count =
        ap (take (cap - at)) (ap (drop at) e ∙ past_front xs old n at count clear)
        ∙ ap (λ (k : ℕ). part k (cap - k) old) c.stands
        ∙ sym (around_from old low gap cap long c.p c.from (omega (arith, reached, c.stands)))

    left_indexes : part at (cap - at) si' ≡ drop c.p a.indexes
    left_indexes = let w = g.holds.wrote in left si si' (indexes_below (join_at Add a b) g.front) r.roomy.long w.indexes w.count

    left_values : part at (cap - at) sv' ≡ drop c.p a.values
    left_values =
        let w = g.holds.wrote in
        left sv sv' (values_below (join_at Add a b) g.front) r.roomy.long' w.values (as_many (join_at Add a b) g.front ∙ w.count)

    -- what a stride is handed
    pub climbing_clear : Clear si' sv' at cap n
    climbing_clear = record {
      order = reached;
      long = omega (arith, lengths.0, r.roomy.long);
      long' = omega (arith, lengths.1, r.roomy.long');
      clear = clear;
      rising = rw left_indexes
          (λ i j h l.
          let long = length-drop c.p a.indexes in
          rw (get_or-drop c.p a.indexes i 0, get_or-drop c.p a.indexes j 0) (sa.rising (c.p + i) (c.p + j) (omega arith) (omega arith)));
    }

    module _ (h : at + q < cap + size b) where
      climbing_standing : Standing (part at (cap - at) si') (part at (cap - at) sv') 0 b.indexes b.values q
      climbing_standing =
          let i = length-drop c.p a.indexes in
          let v = length-drop c.p a.values in
          let n = g.walk.left.within in
          rw (left_indexes, left_values)
          (record {
            even = omega (arith, sa.even);
            even' = sb.even;
            within = omega arith;
            within' = g.walk.right.within;
            most = omega (arith, size_most sa, sa.high);
            most' = omega (arith, size_most sb, sb.high);
            more = omega (arith, c.stands, r.far);
          })

      under : n < cap
      under = omega (arith, c.stands, r.far, fits.0, fits.1)

      pub climbing_steady : Steady si' sv' at cap n b.indexes b.values q
      climbing_steady = record {
        order = reached;
        long = omega (arith, lengths.0, r.roomy.long);
        long' = omega (arith, lengths.1, r.roomy.long');
        standing = climbing_standing;
        room = omega (arith, under, lengths.0, r.roomy.long);
        room' = omega (arith, under, lengths.1, r.roomy.long');
      }

    -- one turn more
    pub climbing_more : {s : Step} {si'' : List ℕ} {sv'' : List Float} → Stepped si' sv' at cap n b.indexes b.values q s si'' sv''
        → Climbing a b low gap si sv si'' sv'' s.at s.q s.n (turns + 1)
    climbing_more m =
        let t = m.turn in
        let v : Turned (drop c.p a.indexes) (drop c.p a.values) 0 b.indexes b.values q t =
        rw (left_indexes, left_values) at m.turned
        in
        rw (m.left, m.right)
        (record {
          p = c.p + t.p;
          from = omega (arith, c.from);
          stands = omega (arith, c.stands);
          merging = merging_more sa sb c.merging r.roomy.same (turned_left a.indexes a.values c.p v)
              (omega (arith, under m.some, r.roomy.long)) (omega (arith, under m.some, r.roomy.long')) refl m.put;
        })

    pub climbing_end : cap + size b ≤ at + q → Grown (joins Add a b) (row_turns a b) cap si sv (record { len = n; turns = turns }) si' sv'
    climbing_end h =
        let made = merging_end sa sb c.merging (omega (arith, c.stands, r.far)) in
        let w = made.wrote in
        let fits : n ≤ cap = omega (arith, clear, reached) in
        record {
          count = sym w.count;
          fits = omega (arith, w.count);
          turned = turns_from a b (omega (arith, first_most b sb, r.roomy.same)) turns made.turned;
          indexes = stands_front (indexes_below (join_at Add a b) d) si si' n cap w.indexes w.count fits r.roomy.long;
          values = stands_front (values_below (join_at Add a b) d) sv sv' n cap w.values (as_many (join_at Add a b) d ∙ w.count) fits
              r.roomy.long';
        }

  -- many turns more
  pub climbing_chain : {at q n turns : ℕ} {si' : List ℕ} {sv' : List Float} → Climbing a b low gap si sv si' sv' at q n turns
      → {k : ℕ} {t : Step} {si'' : List ℕ} {sv'' : List Float} → Chain cap b.indexes b.values k (step at q n) si' sv' t si'' sv''
      → Climbing a b low gap si sv si'' sv'' t.at t.q t.n (turns + k)
  climbing_chain {at} {q} {n} {turns} {si'} {sv'} m =
      let z : turns + 0 ≡ turns = omega arith in
      let first : Climbing a b low gap si sv si' sv' at q n (turns + 0) = rw z m in
      chain_keeps (λ k t x w. Climbing a b low gap si sv x w t.at t.q t.n (turns + k))
      (λ k t x w u x' w' c s.
      let e : turns + suc k ≡ turns + k + 1 = omega arith in
      rw e (climbing_more c s))
      first
