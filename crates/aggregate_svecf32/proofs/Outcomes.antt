-- Every call has an outcome that its promise permits, whatever the header, the lists and the row: where the tests refuse nothing changes, and
-- else the vector has room in the lists. Assumes nothing.
use Prim.Native.Nat.{ℕ, ◌+◌}
use native.Mathlib.Omega.{arith}
use mathlib.Core.Bool.{Bool, true, false}
use mathlib.Core.List.{List, ◌++◌}
use mathlib.Core.Path.{◌≡◌, refl, sym, ◌∙◌}
use lib.ListN.{length, take, drop}
use lib.Ieee.{Float}
use Rattle.std.specs.Prelude.{Result, Ok, Err}
use Rattle.refusal.specs.Answers.{Checked, Valid, written}
use Rattle.refusal.specs.declared.Refusal.{Refusal}
use Rattle.refusal.specs.declared.Written.{Written}
use Rattle.sparse.specs.Vectors.{Vector, size}
use Rattle.sparse.specs.Calls.{Leaves}
use Rattle.sparse.proofs.Writes.{refused, done}
use Rattle.regions.specs.Regions.{Pair, pair}
use Rattle.regions.proofs.Stands.{stands_some}
use Rattle.averages.specs.Averages.{shared}
use Rattle.averages.proofs.Shares.{shared_many}
use Rattle.aggregate_svecf32.specs.States.{held}
use Rattle.aggregate_svecf32.specs.Calls.{Deed, Acts, taken, row_of, Rows, combine_of, combined, Combines, move_of, moved, Moves}
use Rattle.aggregate_svecf32.specs.Calls.{finish_of, Sums, Averages}
use Rattle.aggregate_svecf32.specs.declared.Header.{Header}
use Rattle.aggregate_svecf32.proofs.Acting.{acts_refused, acts_done}
use Rattle.aggregate_svecf32.proofs.Coming.{combine_none}
use Rattle.aggregate_svecf32.proofs.Finishing.{finish_sure}
use Rattle.aggregate_svecf32.proofs.Keeps.{Fits, row_fits, combine_tests, combined_fits, moved_fits}

-- ---- calls on a state

-- a list in which xs is written, and nothing else changes
abbrev put {ℓ} : {A : Type ℓ} → ℕ → List A → List A → List A
put start xs old = take start old ++ (xs ++ drop (start + length xs) old)

module _ (h : Header) (due : Checked) (d : Deed) (p : Pair) where
  abbrev Outcome : Type 0
  Outcome = (r : Result ℕ Refusal) × (h' : Header) × (q : Pair) × Acts h due d p r h' q

  fits_some : due ≡ Valid → Fits d p → Outcome
  fits_some e f =
      let start = d.header.start in
      let i = f.inside in (
        Ok d.turns,
        d.header,
        pair (put start d.vector.indexes p.indexes) (put start d.vector.values p.values),
        acts_done d e
            (stands_some start d.room d.vector.indexes p.indexes f.short (omega (arith, f.within, f.fits, i.indexes)))
            (stands_some start d.room d.vector.values p.values (omega (arith, f.short, f.sound.even))
            (omega (arith, f.within, f.fits, i.values))),
      )

  acts_some : (due ≡ Valid → Outcome) → Outcome
  acts_some passes = go due refl
    where
      go : (c : Checked) → due ≡ c → Outcome
      go (Ok tt) e = passes e
      go (Err r) e = (Err r, h, p, acts_refused d e)

module _ (h : Header) (p : Pair) where
  pub row_some : (v : Vector) → (r : Result ℕ Refusal) × (h' : Header) × (q : Pair) × Rows h p v r h' q
  row_some v =
      let d = taken h p v 1 in
      let due = row_of h p v in
      acts_some h due d p (λ e. fits_some h due d p e (row_fits h p v e))

  pub combine_some : (g : Header) (o : Pair) → (r : Result ℕ Refusal) × (h' : Header) × (q : Pair) × Combines h p g o r h' q
  combine_some g o = acts_some h (combine_of h p g o) (combined h p g o) p (go g.begun refl)
    where
      go : (b : Bool) → g.begun ≡ b → combine_of h p g o ≡ Valid → (r : Result ℕ Refusal) × (h' : Header) × (q : Pair) × Combines h p g o r h' q
      go true t e = fits_some h (combine_of h p g o) (combined h p g o) p e (combined_fits h p g o t e)
      go false t e = let c = combine_tests h p g o e in (Ok 0, h, p, combine_none h p g o c.0 c.1 t)

  pub move_some : (n : ℕ) (q : Pair) (start long : ℕ) → (r : Result ℕ Refusal) × (h' : Header) × (o : Pair) × Moves h p n q start long r h' o
  move_some n q start long =
      let d = moved h p n start long in
      let due = move_of h p n q start long in
      acts_some h due d q (λ e. fits_some h due d q e (moved_fits h p n q start long e))

-- ---- sum and average

leaves_some : (due : Checked) (v : Vector) (oi : List ℕ) (ov : List Float) → (due ≡ Valid → length v.values ≡ size v)
    → (r : Result Written Refusal) × (oi' : List ℕ) × (ov' : List Float) × Leaves due v oi ov r oi' ov'
leaves_some due v oi ov many = go due refl
  where
    go : (c : Checked) → due ≡ c → (r : Result Written Refusal) × (oi' : List ℕ) × (ov' : List Float) × Leaves due v oi ov r oi' ov'
    go (Ok tt) e = (
      Ok (written v.dims (size v)),
      v.indexes ++ drop (size v) oi,
      v.values ++ drop (size v) ov,
      done v e refl (many e) refl refl,
    )
    go (Err r) e = (Err r, oi, ov, refused v e)

module _ (h : Header) (p : Pair) (oi : List ℕ) (ov : List Float) where
  pub sum_some : (r : Result Written Refusal) × (oi' : List ℕ) × (ov' : List Float) × Sums h p oi ov r oi' ov'
  sum_some =
      leaves_some (finish_of h p (length oi) (length ov)) (held h p) oi ov
      (λ e. let s = finish_sure h p oi ov e in s.many' ∙ sym s.many)

  pub average_some : (r : Result Written Refusal) × (oi' : List ℕ) × (ov' : List Float) × Averages h p oi ov r oi' ov'
  average_some =
      leaves_some (finish_of h p (length oi) (length ov)) (shared h.count (held h p)) oi ov (λ e. shared_many h.count (held h p))
