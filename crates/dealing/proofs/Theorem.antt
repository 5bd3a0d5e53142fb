-- THE THEOREM: dealing, order and tree change no bit. Its words are in specs/: what a run is in Runs, what it takes and tells in Demand, and
-- the totals in Totals. Assumes nothing.
use Prim.Native.Nat.{ℕ}
use native.Mathlib.Omega.{arith}
use mathlib.Core.List.Perm
use mathlib.Core.List.{List, [], ◌∷◌, append-nil, Perm}
use mathlib.Core.Path.{sym, ◌∙◌}
use Rattle.sparse.specs.Vectors.{Vector}
use Rattle.sparse.proofs.Writes.{one_writes}
use Rattle.aggregate_svecf32.proofs.Consistent.{state_sure}
use Rattle.dealing.specs.Runs.{Store, State, Finished}
use Rattle.dealing.specs.Demand.{Dealable, Takes, Tells, Alike}
use Rattle.dealing.proofs.Holding.{Holding, bare, full}
use Rattle.dealing.proofs.Owning.{Owns, none, more, owns}
use Rattle.dealing.proofs.Telling.{same_holding, tells}

-- the last state took in all the rows
all_rows : {m : Store} {s : State} {rows : List Vector} → Owns m (s ∷ []) rows → Holding (m s.lists) s.header rows
all_rows {m} {s} (more own others h f none p) = same_holding (m s.lists) s.header (rw (append-nil own) at p) h

-- "Its count is the number of rows, its sum holds exactly the nonzero whole-number totals in rising index order, and its average is each
-- total divided once by the count." A run that took in the given rows, in any order, and left one state
pub dealt : {m : Store} {s : State} {rows : List Vector} → Finished m s rows → (given : List Vector) → Perm rows given
    → (d : ℕ) → Takes d given → Tells m s d given
dealt {m} {s} r given p d t = tells m s d given t (same_holding (m s.lists) s.header p (all_rows (owns r)))

-- "Dealing, order and tree change no bit." Two runs that took in the same rows, in any order, and each left one state
pub no_bit_changes : {m m' : Store} {s s' : State} {rows rows' : List Vector} → Finished m s rows → Finished m' s' rows'
    → Perm rows rows' → (d : ℕ) → Takes d rows → Alike m s m' s'
no_bit_changes {rows = rows} r r' p d t =
    let a = dealt r rows (Perm.refl rows) d t in
    let b = dealt r' rows (Perm.symm p) d t in
    record {
      count = a.count ∙ sym b.count;
      sum = λ oi ov q q' xi yi xv yv f g. one_writes (a.sum oi ov q xi xv f) (b.sum oi ov q' yi yv g);
      average = λ oi ov q q' xi yi xv yv f g. one_writes (a.average oi ov q xi xv f) (b.average oi ov q' yi yv g);
    }

-- A finished run took in valid rows of one dims, as many as a count can be at most: so what `Dealable` asks is no more than that a run can finish
pub finished_dealable : {m : Store} {s : State} {rows : List Vector} → Finished m s rows → Dealable s.header.dims rows
finished_dealable {m} {s} {rows} r = go rows (all_rows (owns r))
  where
    go : (rows : List Vector) → Holding (m s.lists) s.header rows → Dealable s.header.dims rows
    go rows (bare b z) = record { valid = tt; dims = tt; few = omega arith }
    go rows (full b y c v) = record {
      valid = v.valid;
      dims = v.dims;
      few = omega (arith, (state_sure s.header (m s.lists) y b).fair.most);
    }
