-- A run written out step by step, so that the theorem is not empty: three rows of dims 17, and three states a, b and c in one pair of lists.
-- A row that c refuses with ROOM is dealt to a; a answers NEED, and moves; b meets a, where one entry comes to 0; c goes without rows.
-- Assumes nothing.
use Prim.Native.Nat.{ℕ, ◌≤◌}
use native.Mathlib.Omega.{arith}
use mathlib.Core.List.Perm
use mathlib.Core.List.{List, [], ◌∷◌, ◌++◌}
use mathlib.Core.Path.{◌≡◌, refl}
use mathlib.Core.Bool.{Bool, true, false, cond}
use lib.Dec.{T, leb, eqb, leb→le}
use borrow.Author.Tests.{ne_eqb}
use lib.IntN.{pos, nat_abs}
use lib.ListN.{replicate}
use lib.Ieee as Ieee
use lib.Ieee.{Float, nan, fin}
use Rattle.places.specs.Below.{count_below, any_below}
use Rattle.places.specs.Search.{first_from}
use Rattle.whole.specs.Sums.{all}
use Rattle.whole.specs.Whole.{integer}
use Rattle.std.proofs.Common.{Ok, Err}
use Rattle.refusal.specs.declared.Refusal.TheVariants.{Room, Need}
use Rattle.sparse.specs.Cells.{look, indexes_below, values_below}
use Rattle.sparse.specs.Calls.{checked_of}
use Rattle.sparse.specs.Numbers.{number_at}
use Rattle.sparse.specs.Vectors.{Vector, vector, at}
use Rattle.sparse.specs.declared.Cell.{Cell}
use Rattle.sparse.specs.declared.Cell.TheVariants.{Empty, Full}
use Rattle.sparse.proofs.Numbers.{passing_at}
use Rattle.regions.specs.Capacity.{capacity_for}
use Rattle.regions.specs.Regions.{Pair, pair}
use Rattle.aggregate_svecf32.specs.States.{header, fresh, held, consistent, state_of}
use Rattle.aggregate_svecf32.specs.Calls.{taken, combined, moved, row_of, Rows, combine_of, Combines, move_of, Moves}
use Rattle.aggregate_svecf32.specs.declared.Header.{Header}
use Rattle.aggregate_svecf32.proofs.Acting.{acts_done, acts_refused}
use Rattle.dealing.specs.Demand.{Dealable, Exact, Takes, Tells}
use Rattle.dealing.specs.Runs.{Store, State, state, here, there, Only, Run, start, elsewhere, begin, feed, meet, carry, Finished}
use Rattle.dealing.specs.Totals.{totals}
use Rattle.dealing.proofs.Theorem.{dealt}

-- ---- the rows

-- 1, 2 and -1
abbrev one : Float
one = fin false 1 (pos 0)

abbrev two : Float
two = fin false 1 (pos 1)

abbrev minus : Float
minus = fin true 1 (pos 0)

abbrev sixteen : List ℕ
sixteen = 0 ∷ 1 ∷ 2 ∷ 3 ∷ 4 ∷ 5 ∷ 6 ∷ 7 ∷ 8 ∷ 9 ∷ 10 ∷ 11 ∷ 12 ∷ 13 ∷ 14 ∷ 15 ∷ []

abbrev ones : List Float
ones = replicate 16 one

abbrev v1 : Vector
v1 = vector 17 sixteen ones

abbrev v2 : Vector
v2 = vector 17 (16 ∷ []) (two ∷ [])

abbrev v3 : Vector
v3 = vector 17 (3 ∷ []) (minus ∷ [])

-- the last one first, as a run has them
abbrev pub rows : List Vector
rows = v3 ∷ v2 ∷ v1 ∷ []

-- the index 3 is gone
abbrev pub sums : Vector
sums = vector 17 (0 ∷ 1 ∷ 2 ∷ 4 ∷ 5 ∷ 6 ∷ 7 ∷ 8 ∷ 9 ∷ 10 ∷ 11 ∷ 12 ∷ 13 ∷ 14 ∷ 15 ∷ 16 ∷ []) (replicate 15 one ++ (two ∷ []))

-- ---- the lists and the headers (start, length, begun, dims, len, capacity, count)

-- any pair of lists at first: rubbish
abbrev x0 : Pair
x0 = pair (replicate 40 9) (replicate 40 nan)

-- the pairs 0 and 1 are these
abbrev pub lists : Pair → Pair → Store
lists x y q = cond (eqb q 0) x (cond (eqb q 1) y x0)

-- a begins in the pair 0, from 0 on
abbrev x1 : Pair
x1 = pair (sixteen ++ replicate 24 9) (ones ++ replicate 24 nan)

abbrev a1 : Header
a1 = header 0 16 true 17 16 16 1

-- it moves to the pair 1, from 1 on
abbrev y1 : Pair
y1 = pair (9 ∷ (sixteen ++ replicate 23 9)) (nan ∷ (ones ++ replicate 23 nan))

abbrev a2 : Header
a2 = header 1 17 true 17 16 17 1

-- and merges there
abbrev y2 : Pair
y2 = pair (9 ∷ (sixteen ++ (16 ∷ replicate 22 9))) (nan ∷ (ones ++ (two ∷ replicate 22 nan)))

abbrev a3 : Header
a3 = header 1 17 true 17 17 17 2

-- b begins in the pair 0, from 16 on
abbrev pub x2 : Pair
x2 = pair (replicate 16 9 ++ (3 ∷ replicate 23 9)) (replicate 16 nan ++ (minus ∷ replicate 23 nan))

abbrev b1 : Header
b1 = header 16 16 true 17 1 16 1

-- the two have met; the place after the 16 entries is open, and holds anything
abbrev pub y3 : Pair
y3 = pair (9 ∷ (sums.indexes ++ (1000 ∷ replicate 22 9))) (nan ∷ (sums.values ++ (minus ∷ replicate 22 nan)))

abbrev pub a4 : Header
a4 = header 1 17 true 17 16 17 3

-- ---- the calls: what they answer, and leave

record Calls : Type 0 where
  short : Rows (fresh 32 8) x0 v1 (Err (Room 16)) (fresh 32 8) x0
  begins : Rows (fresh 0 16) x0 v1 (Ok 16) a1 x1
  needs : Rows a1 x1 v2 (Err (Need 17)) a1 x1
  moves : Moves a1 x1 1 x0 1 17 (Ok 0) a2 y1
  merges : Rows a2 y1 v2 (Ok 1) a3 y2
  other : Rows (fresh 16 16) x0 v3 (Ok 1) b1 x2
  meets : Combines a3 y2 b1 x2 (Ok 14) a4 y3
  bare : Combines a4 y3 (fresh 32 8) x2 (Ok 0) a4 y3

calls : Calls
unfolding row_of combine_of move_of state_of consistent checked_of capacity_for first_from any_below count_below look indexes_below values_below
    Ieee.eq Ieee.of_bits Ieee.add
calls = record {
  short = acts_refused (taken (fresh 32 8) x0 v1 1) refl;
  begins = acts_done (taken (fresh 0 16) x0 v1 1) refl (search) (search);
  needs = acts_refused (taken a1 x1 v2 1) refl;
  moves = acts_done (moved a1 x1 1 1 17) refl (search) (search);
  merges = acts_done (taken a2 y1 v2 1) refl (search) (search);
  other = acts_done (taken (fresh 16 16) x0 v3 1) refl (search) (search);
  meets = acts_done (combined a3 y2 b1 x2) refl (search) (search);
  bare = acts_done (combined a4 y3 (fresh 32 8) x2) refl (search) (search);
}

-- ---- the run

-- a call that writes one of the pairs 0 and 1 changes no other
only0 : (x x' y : Pair) → Only 0 (lists x y) (lists x' y)
only0 x x' y q other = rw (ne_eqb q 0 other)

only1 : (x y y' : Pair) → Only 1 (lists x y) (lists x y')
only1 x y y' q other = rw (ne_eqb q 1 other)

-- the states without rows
abbrev a0 : State
a0 = state 0 (fresh 0 16)

abbrev b0 : State
b0 = state 0 (fresh 16 16)

abbrev c0 : State
c0 = state 0 (fresh 32 8)

r0 : Run (lists x0 x0) (c0 ∷ b0 ∷ a0 ∷ []) []
r0 =
    let a = begin (start (lists x0 x0)) 0 0 16 tt in
    let ab = begin a 0 16 16 ((λ e i a b c d. omega arith), tt) in
    begin ab 0 32 8 ((λ e i a b c d. omega arith), ((λ e i a b c d. omega arith), tt))

-- v1 comes to c, which has too few places, and then to a
r1 : Run (lists x0 x0) (c0 ∷ b0 ∷ a0 ∷ []) []
r1 = feed r0 c0 (b0 ∷ a0 ∷ []) here v1 (Err (Room 16)) (fresh 32 8) (lists x0 x0) (only0 x0 x0 x0) calls.short

r2 : Run (lists x1 x0) (state 0 a1 ∷ c0 ∷ b0 ∷ []) (v1 ∷ [])
r2 = feed r1 a0 (c0 ∷ b0 ∷ []) (there (there here)) v1 (Ok 16) a1 (lists x1 x0) (only0 x0 x1 x0) calls.begins

-- v2 comes to a, which has no room, moves, and takes it
r3 : Run (lists x1 x0) (state 0 a1 ∷ c0 ∷ b0 ∷ []) (v1 ∷ [])
r3 = feed r2 (state 0 a1) (c0 ∷ b0 ∷ []) here v2 (Err (Need 17)) a1 (lists x1 x0) (only0 x1 x1 x0) calls.needs

r4 : Run (lists x1 y1) (state 1 a2 ∷ c0 ∷ b0 ∷ []) (v1 ∷ [])
r4 =
    carry r3 (state 0 a1) (c0 ∷ b0 ∷ []) here 1 1 1 17
    (Ok 0) a2 ((λ e. absurd (omega arith)), ((λ e. absurd (omega arith)), tt)) (lists x1 y1) (only1 x1 x0 y1) calls.moves

r5 : Run (lists x1 y2) (state 1 a3 ∷ c0 ∷ b0 ∷ []) (v2 ∷ v1 ∷ [])
r5 = feed r4 (state 1 a2) (c0 ∷ b0 ∷ []) here v2 (Ok 1) a3 (lists x1 y2) (only1 x1 y1 y2) calls.merges

-- where a lay anything is written; v3 comes to b
r6 : Run (lists x0 y2) (state 1 a3 ∷ c0 ∷ b0 ∷ []) (v2 ∷ v1 ∷ [])
r6 = elsewhere r5 (lists x0 y2) (search)

r7 : Run (lists x2 y2) (state 0 b1 ∷ state 1 a3 ∷ c0 ∷ []) rows
r7 = feed r6 b0 (state 1 a3 ∷ c0 ∷ []) (there (there here)) v3 (Ok 1) b1 (lists x2 y2) (only0 x0 x2 y2) calls.other

-- b meets a, and then c does
r8 : Run (lists x2 y3) (state 1 a4 ∷ c0 ∷ []) rows
r8 =
    meet r7 (state 1 a3) (state 0 b1 ∷ c0 ∷ []) (there here) (state 0 b1) (c0 ∷ []) here (λ e. omega arith)
    (Ok 14) a4 (lists x2 y3) (only1 x2 y2 y3) calls.meets

pub trial : Finished (lists x2 y3) (state 1 a4) rows
trial = meet r8 (state 1 a4) (c0 ∷ []) here c0 [] here (λ e. omega arith) (Ok 0) a4 (lists x2 y3) (only1 x2 y3 y3) calls.bare

-- ---- its rows are as the theorem takes them

pub trial_dealable : Dealable 17 rows
unfolding checked_of first_from any_below Ieee.eq Ieee.of_bits
trial_dealable = record { valid = tt; dims = tt; few = omega arith }

-- values of size 2 at most
abbrev little : Float → Bool
little x = leb (nat_abs (integer x)) 2

little_at : (v : Vector) → T (all little v.values) → (k : ℕ) → nat_abs (number_at (at v k)) ≤ 2
little_at v t k = go (at v k) refl
  where
    go : (x : Cell) → at v k ≡ x → nat_abs (number_at x) ≤ 2
    go Empty e = omega arith
    go (Full x) e = leb→le (nat_abs (integer x)) 2 (passing_at little v t k x e)

pub trial_exact : Exact rows
unfolding Ieee.fits
trial_exact = record {
  floats = tt;
  whole = tt;
  small = λ k. omega (arith, little_at v1 tt k, little_at v2 tt k, little_at v3 tt k);
}

pub trial_takes : Takes 17 rows
trial_takes = record { some = omega arith; dealable = trial_dealable; exact = trial_exact }

-- ---- their totals are what the last state holds

pub trial_totals : totals 17 rows ≡ sums
unfolding look indexes_below values_below Ieee.of_int
trial_totals = refl

pub trial_holds : held a4 y3 ≡ sums
trial_holds = refl

-- and the theorem tells it
pub trial_tells : Tells (lists x2 y3) (state 1 a4) 17 rows
trial_tells = dealt trial rows (Perm.refl rows) 17 trial_takes
