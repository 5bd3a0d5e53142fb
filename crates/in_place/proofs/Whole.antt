-- A merge in place from its two halves: the move to the far end, and the merge up from there. Assumes nothing.
use Prim.Native.Nat.{ℕ, ◌+◌, ◌-◌, ◌≤◌}
use native.Mathlib.Omega.{arith}
use mathlib.Core.List.{List}
use mathlib.Core.Path.{◌≡◌, refl, ap₂, subst, ◌∙◌}
use lib.ListN.{length, take, drop}
use lib.Seq.{length-take-le}
use lib.Ieee.{Float}
use Rattle.sparse.specs.Vectors.{Vector, vector}
use Rattle.sparse.specs.Sound.{Split}
use Rattle.merges.specs.Algebra.{joins}
use Rattle.merges.specs.declared.Both.{Both}
use Rattle.merges.specs.declared.Op.TheVariants.{Add}
use Rattle.regions.specs.Regions.{Stands}
use Rattle.in_place.specs.Turns.{first_index, row_turns}
use Rattle.in_place.specs.Loops.{Roomy, Raised, Grown}
use Rattle.in_place.proofs.Moved.{moved, moved_length, moved_around, moved_after}
use Rattle.in_place.proofs.Climbs.{lying}

-- the state's vector, in the first len entries of its lists
abbrev pub state : ℕ → ℕ → List ℕ → List Float → Vector
state d len si sv = vector d (take len si) (take len sv)

-- what stands in a list that was moved stands in the list as it was
stands_moved {ℓ} : {A : Type ℓ} {room : ℕ} {xs old mid new : List A} → length mid ≡ length old → drop room mid ≡ drop room old
    → Stands 0 room xs mid new → Stands 0 room xs old new
stands_moved {room = room} long after s =
    let z : 0 + room ≡ room = omega arith in
    record { long = s.long ∙ long; before = refl; here = s.here; after = s.after ∙ rw z after }

module _ {d len cap : ℕ} {b : Vector} {si : List ℕ} {sv : List Float} (le : len ≤ cap) (r : Roomy (state d len si sv) b cap si sv) where
  module _ {low : ℕ} (cut : Split (take len si) low (first_index b)) {mi : List ℕ} {mv : List Float}
      (is : mi ≡ moved si (cap - len) len low) (vs : mv ≡ moved sv (cap - len) len low) where
    under : low ≤ len
    under = omega (arith, cut.within, length-take-le len si (omega (arith, r.long)))

    fits : cap - len + len ≤ length si
    fits = omega (arith, r.long)

    fits' : cap - len + len ≤ length sv
    fits' = omega (arith, r.long')

    far : cap - len + len ≡ cap
    far = omega arith

    -- the entries are the same, elsewhere
    same_vector : lying d low (cap - len) cap mi mv ≡ state d len si sv
    same_vector =
        rw (is, vs)
        (ap₂ (vector d)
        (moved_around si (cap - len) len fits low under cap far)
        (moved_around sv (cap - len) len fits' low under cap far))

    long_indexes : length mi ≡ length si
    long_indexes = rw is (moved_length si (cap - len) len fits low under)

    long_values : length mv ≡ length sv
    long_values = rw vs (moved_length sv (cap - len) len fits' low under)

    pub raised : Raised (lying d low (cap - len) cap mi mv) b low (cap - len) cap mi mv
    raised =
        rw same_vector
        (record {
          roomy = record {
            left = r.left;
            right = r.right;
            same = r.same;
            spare = r.spare;
            long = omega (arith, r.long, long_indexes);
            long' = omega (arith, r.long', long_values);
          };
          split = cut;
          far = omega (arith, length-take-le len si (omega (arith, r.long)));
        })

    -- and so what they give with the row
    pub grown : {t : Both} {si' : List ℕ} {sv' : List Float}
        → (let a = lying d low (cap - len) cap mi mv in Grown (joins Add a b) (row_turns a b) cap mi mv t si' sv')
        → (let a = state d len si sv in Grown (joins Add a b) (row_turns a b) cap si sv t si' sv')
    grown {t} {si'} {sv'} g =
        let h = subst (λ (a : Vector). Grown (joins Add a b) (row_turns a b) cap mi mv t si' sv') same_vector g in
        record {
          count = h.count;
          turned = h.turned;
          fits = h.fits;
          indexes = stands_moved long_indexes (rw is (moved_after si (cap - len) len fits low under cap far)) h.indexes;
          values = stands_moved long_values (rw vs (moved_after sv (cap - len) len fits' low under cap far)) h.values;
        }
