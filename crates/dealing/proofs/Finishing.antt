-- Whatever valid rows of one dims there are, as many as a count can be, some run takes them all in: one state, in a region of d places, takes one
-- row after the other; where it answers NEED it moves to the next pair of lists, and the row comes again. Assumes nothing.
use Prim.Native.Nat.{ℕ, suc, ◌+◌, ◌≤◌}
use native.Mathlib.Omega.{arith}
use mathlib.Core.Bool.{Bool, true, false, cond}
use mathlib.Core.List.{List, [], ◌∷◌}
use mathlib.Core.Path.{◌≡◌, refl, sym, ◌∙◌}
use lib.Dec.{T, eqb, eqb→eq}
use lib.Ieee.{nan}
use lib.Ieee.Fits.{and_l, and_r}
use lib.ListN.{length, replicate, length-replicate}
use borrow.Author.Tests.{le-ltb}
use Rattle.whole.specs.Sums.{all}
use Rattle.refusal.specs.Answers.{Checked, Valid}
use Rattle.refusal.specs.declared.Refusal.TheVariants.{Need}
use Rattle.std.proofs.Common.{Ok, Err}
use Rattle.sparse.specs.Vectors.{Vector, size}
use Rattle.sparse.specs.Calls.{checked_of}
use Rattle.regions.specs.Capacity.{capacity_for}
use Rattle.regions.specs.Regions.{Pair, pair, inside}
use Rattle.regions.proofs.Capacities.{cap_most}
use Rattle.regions.proofs.Stands.{both_inside}
use Rattle.headers.specs.Headers.{most_rows, passes, too_many}
use Rattle.aggregate_svecf32.specs.States.{fresh, state_of}
use Rattle.aggregate_svecf32.specs.Calls.{Deed, Acts, merge_of, spare, row_of}
use Rattle.aggregate_svecf32.specs.declared.Header.{Header}
use Rattle.aggregate_svecf32.proofs.Consistent.{inside_facts, bare_state}
use Rattle.aggregate_svecf32.proofs.Joined.{merge_need, merge_passes}
use Rattle.aggregate_svecf32.proofs.Keeps.{Keeps, acts_indexes, acts_values, row_keeps, move_keeps}
use Rattle.aggregate_svecf32.proofs.Outcomes.{row_some, move_some}
use Rattle.dealing.specs.Demand.{Dealable}
use Rattle.dealing.specs.Runs.{Store, State, Told, state, here, Run, start, begin, Finished}
use Rattle.dealing.proofs.Needs.{need_made_good}
use Rattle.dealing.proofs.Stores.{changed, changed_at, fed, unfed, carried}

-- ---- what is reached

-- d places from 0 on lie inside all lists; one state has begun, passes, and has taken in these rows
record Reached (d : ℕ) (rows : List Vector) : Type 0 where
  m : Store
  p : ℕ
  h : Header
  run : Run m (state p h ∷ []) rows
  long : (q : ℕ) → inside 0 d (m q) ≡ true
  begun : h.begun ≡ true
  state : state_of h (m p) ≡ Valid
  dims : h.dims ≡ d
  count : h.count ≡ length rows

-- what the tests of a row find
abbrev due : {d : ℕ} {rows : List Vector} → Reached d rows → Vector → Checked
due r v = row_of r.h (r.m r.p) v

-- a call has done its deed in the pair p
abbrev reached : {d : ℕ} {rows : List Vector} (m : Store) → ((q : ℕ) → inside 0 d (m q) ≡ true) → (p : ℕ)
    → {h : Header} {tests : Checked} {w : Deed} {t : Told} {k : Header} {x : Pair} → Acts h tests w (m p) t k x → tests ≡ Valid → Keeps w t k x
    → w.header.dims ≡ d → w.header.count ≡ length rows → Run (changed m p x) (state p w.header ∷ []) rows → Reached d rows
reached {d} m long p {w = w} {x = x} acts e k dims count run = record {
  m = changed m p x;
  p = p;
  h = w.header;
  run = run;
  long = λ q. go (m q) (long q) (eqb q p);
  begun = k.begun;
  state = rw (changed_at m p x) k.state;
  dims = dims;
  count = count;
}
  where
    go : (y : Pair) → inside 0 d y ≡ true → (b : Bool) → inside 0 d (cond b x y) ≡ true
    go y l true = rw ((acts_indexes acts e).long, (acts_values acts e).long) (long p)
    go y l false = l

-- ---- the first row

module _ (d : ℕ) where
  blank : Store
  blank p = pair (replicate d 0) (replicate d nan)

  alone : Run blank (state 0 (fresh 0 d) ∷ []) []
  alone = begin (start blank) 0 0 d tt

  wide : (q : ℕ) → inside 0 d (blank q) ≡ true
  unfolding blank
  wide q = both_inside 0 d (blank q) (omega (arith, length-replicate {A = ℕ} d 0)) (omega (arith, length-replicate d nan))

module _ {d : ℕ} (v : Vector) (passed : checked_of v ≡ Valid) (same : v.dims ≡ d) where
  first_due : row_of (fresh 0 d) (blank d 0) v ≡ Valid
  unfolding row_of
  first_due =
      let i = inside_facts (fresh 0 d) (blank d 0) (wide d 0) in
      let s = bare_state (fresh 0 d) (blank d 0) refl i (record { dims = refl; len = refl; capacity = refl; count = refl }) in
      rw (passed, s, le-ltb d (capacity_for v.dims (size v)) (omega (arith, cap_most v.dims (size v))))

  first : Reached d (v ∷ [])
  first =
      let o = row_some (fresh 0 d) (blank d 0) v in
      let k = row_keeps (fresh 0 d) (blank d 0) v o.3 first_due in
      reached (blank d) (wide d) 0 o.3 first_due k same refl (rw (k.told, k.header) at (fed (alone d) (state 0 (fresh 0 d)) here v o.3))

  -- ---- a later row

  module _ {rows : List Vector} (r : Reached d rows) where
    taking : due r v ≡ Valid → Reached d (v ∷ rows)
    taking e =
        let o = row_some r.h (r.m r.p) v in
        let k = row_keeps r.h (r.m r.p) v o.3 e in
        let b = r.begun in
        reached r.m r.long r.p o.3 e k (rw b r.dims) (rw b (omega (arith, r.count)))
        (rw (k.told, k.header) at (fed r.run (state r.p r.h) here v o.3))

    -- the row is refused with NEED, and the state moves; then it passes
    moving : {c : ℕ} → due r v ≡ Err (Need c) → c ≤ d → (r' : Reached d rows) × (due r' v ≡ Valid)
    moving e room =
        let q = suc r.p in
        let good = need_made_good r.h (r.m r.p) (r.m q) 0 d (r.long q) room v e in
        let o = move_some r.h (r.m r.p) (size v) (r.m q) 0 d in
        let k = move_keeps r.h (r.m r.p) (size v) (r.m q) 0 d o.3 good.0 in
        let refused = unfed r.run (state r.p r.h) here v e in
        let went = carried refused (state r.p r.h) here (size v) q 0 d tt o.3 in (
          reached r.m r.long q o.3 good.0 k r.dims r.count (rw (k.told, k.header) at went),
          rw (changed_at r.m q o.2) (rw k.header at (good.1 o.0 o.1 o.2 o.3)),
        )

  later : {rows : List Vector} → Reached d rows → suc (length rows) ≤ most_rows → Reached d (v ∷ rows)
  unfolding row_of
  later {rows} r few = go (spare r.h (size v)) refl
    where
      tests : {c : Checked} → merge_of r.h v 1 ≡ c → due r v ≡ c
      tests e = rw (passed, r.state, r.begun) e

      fewer : too_many r.h.count 1 ≡ false
      fewer = le-ltb most_rows (r.h.count + 1) (omega (arith, r.count))

      go : (b : Bool) → spare r.h (size v) ≡ b → Reached d (v ∷ rows)
      go true f = taking r (tests (merge_passes r.h v 1 (r.dims ∙ sym same) fewer f))
      go false f =
          let need = tests (merge_need r.h v 1 (r.dims ∙ sym same) fewer f) in
          let a = moving r need (omega (arith, r.dims, cap_most r.h.dims (r.h.len + size v))) in
          taking a.0 a.1

-- ---- all rows

is_valid : (c : Checked) → T (passes c) → c ≡ Valid
is_valid (Ok tt) t = refl
is_valid (Err r) t = absurd t

-- the first passes the test, and so do the others
both : (t : Vector → Bool) (v : Vector) (rows : List Vector) → T (all t (v ∷ rows)) → T (t v) × T (all t rows)
both t v rows h = (and_l (t v) (all t rows) h, and_r (t v) (all t rows) h)

parts : {d : ℕ} {v : Vector} {rows : List Vector} → Dealable d (v ∷ rows) → (checked_of v ≡ Valid) × (v.dims ≡ d) × Dealable d rows
parts {d} {v} {rows} f =
    let a = both (λ v. passes (checked_of v)) v rows f.valid in
    let b = both (λ v. eqb v.dims d) v rows f.dims in
    (is_valid (checked_of v) a.0, eqb→eq v.dims d b.0, record { valid = a.1; dims = b.1; few = omega (arith, f.few) })

reach : (d : ℕ) (v : Vector) (rows : List Vector) → Dealable d (v ∷ rows) → Reached d (v ∷ rows)
reach d v [] f = let a = parts f in first v a.0 a.1
reach d v (w ∷ rows) f = let a = parts f in later v a.0 a.1 (reach d w rows a.2) f.few

pub can_finish : (d : ℕ) (rows : List Vector) → Dealable d rows → (m : Store) × (s : State) × Finished m s rows
can_finish d [] f = (blank d, state 0 (fresh 0 d), alone d)
can_finish d (v ∷ rows) f = let r = reach d v rows f in (r.m, state r.p r.h, r.run)
