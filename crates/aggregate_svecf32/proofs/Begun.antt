-- A state that has not begun takes a vector: the region has room for its entries, and what is left. Assumes nothing.
use Prim.Native.Nat.{ℕ, ◌≤◌, ◌<◌}
use native.Mathlib.Omega.{arith}
use mathlib.Core.Path.{◌≡◌}
use lib.Seq.{take-length}
use borrow.Author.Tests.{lt-ltb, le-ltb}
use Rattle.std.specs.Prelude.{Ok, Err}
use Rattle.refusal.specs.declared.Refusal.TheVariants.{Room}
use Rattle.sparse.specs.Vectors.{Vector, size}
use Rattle.sparse.proofs.Checks.{size_most}
use Rattle.regions.specs.Capacity.{capacity_for}
use Rattle.regions.specs.Loops.{Fitting, Copied}
use Rattle.regions.specs.Regions.{Pair, pair}
use Rattle.regions.proofs.Capacities.{cap_le}
use Rattle.aggregate_svecf32.specs.Calls.{Acts, begin_of, begun}
use Rattle.aggregate_svecf32.specs.Loops.{Given}
use Rattle.aggregate_svecf32.specs.declared.Header.{Header}
use Rattle.aggregate_svecf32.proofs.Consistent.{state_inside}
use Rattle.aggregate_svecf32.proofs.Acting.{acts_copied}

pub begin_short : (h : Header) (v : Vector) → let c = capacity_for v.dims (size v) in h.length < c → begin_of h v ≡ Err (Room c)
begin_short h v l = rw (lt-ltb h.length (capacity_for v.dims (size v)) l)

module _ (h : Header) (p : Pair) (v : Vector) (count : ℕ) (g : Given h p v) (room : capacity_for v.dims (size v) ≤ h.length) where
  -- the region has room for the entries
  pub begin_fits : Fitting 0 (size v) (pair v.indexes v.values) h.start p
  begin_fits =
      let i = state_inside h p g.state in
      let few = cap_le v.dims (size v) (size_most g.row) in
      record {
        indexes = omega arith;
        values = omega (arith, g.row.even);
        room = omega (arith, few, room, i.indexes);
        room' = omega (arith, few, room, i.values);
      }

  pub begin_done : {q : Pair} → Copied 0 (size v) (pair v.indexes v.values) h.start p q
      → Acts h (begin_of h v) (begun h v count) p (Ok (size v)) (begun h v count).header q
  begin_done =
      acts_copied (begun h v count) (take-length v.indexes) (rw g.row.even (take-length v.values))
      (rw (le-ltb h.length (capacity_for v.dims (size v)) room))
