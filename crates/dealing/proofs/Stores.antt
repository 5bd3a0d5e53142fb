-- The lists after a step that wrote one pair of them, and the steps that leave them so. Assumes nothing.
use Rattle.std.proofs.Common.{◌≡◌, ℕ, cond, eqb, List, ◌∷◌, Ok, Err, refl}
use borrow.Author.Tests.{eq-eqb, ne_eqb}
use Rattle.sparse.specs.Vectors.{Vector}
use Rattle.regions.specs.Regions.{Pair}
use Rattle.refusal.specs.declared.Refusal.{Refusal}
use Rattle.aggregate_svecf32.specs.Calls.{row_of, Rows, Moves, taken}
use Rattle.aggregate_svecf32.specs.declared.Header.{Header}
use Rattle.aggregate_svecf32.proofs.Acting.{acts_refused}
use Rattle.dealing.specs.Runs.{Store, State, state, Pick, Each, Clear, Only, Told, taken_in, IfDone, lies_in, Run, feed, carry}

-- the pair p is x now
abbrev pub changed : Store → ℕ → Pair → Store
changed m p x q = cond (eqb q p) x (m q)

module _ (m : Store) (p : ℕ) (x : Pair) where
  pub changed_at : changed m p x p ≡ x
  changed_at = rw (eq-eqb p p refl)

  only : Only p m (changed m p x)
  only q other = rw (ne_eqb q p other)

if_done : (t : Told) {A : Type 0} → A → IfDone t A
if_done (Ok turns) a = a
if_done (Err e) a = tt

module _ {m : Store} {ss : List State} {rows : List Vector} (run : Run m ss rows) (s : State) {rest : List State} (pick : Pick s ss rest) where
  pub fed : (v : Vector) {t : Told} {h : Header} {x : Pair} → Rows s.header (m s.lists) v t h x
      → Run (changed m s.lists x) (state s.lists h ∷ rest) (taken_in t v rows)
  fed v {t} {h} {x} acts =
      feed run s rest pick v t h (changed m s.lists x) (only m s.lists x) (rw (changed_at m s.lists x) acts)

  -- a row that was refused
  pub unfed : (v : Vector) {r : Refusal} → row_of s.header (m s.lists) v ≡ Err r → Run m (s ∷ rest) rows
  unfed v {r} e = feed run s rest pick v (Err r) s.header m (λ q other. refl) (acts_refused (taken s.header (m s.lists) v 1) e)

  pub carried : (more p at n : ℕ) → Each (Clear p at n) rest
      → {t : Told} {h : Header} {x : Pair} → Moves s.header (m s.lists) more (m p) at n t h x
      → Run (changed m p x) (state (lies_in t s.lists p) h ∷ rest) rows
  carried more p at n clear {t} {h} {x} acts =
      carry run s rest pick more p at n t h (if_done t clear) (changed m p x) (only m p x) (rw (changed_at m p x) acts)
