-- Sum and average: what is known where their tests find nothing, and what they leave. Assumes nothing.
use Prim.Native.Nat.{ℕ, ◌≤◌}
use native.Mathlib.Omega.{arith}
use mathlib.Core.Bool.{not}
use mathlib.Core.List.{List}
use mathlib.Core.Path.{◌≡◌, sym, subst, ◌∙◌}
use lib.ListN.{length}
use lib.Ieee.{Float}
use borrow.Author.Tests.{not-false}
use Rattle.std.specs.Prelude.{Ok}
use Rattle.refusal.specs.Answers.{Valid, refuse, written}
use Rattle.refusal.specs.declared.Refusal.TheVariants.{NotBegun}
use Rattle.refusal.proofs.Chains.{next_valid, refuse_valid}
use Rattle.sparse.specs.Calls.{room_of}
use Rattle.sparse.specs.Vectors.{Vector}
use Rattle.sparse.proofs.Writes.{room_passed, done}
use Rattle.regions.specs.Loops.{Fitting, Copied}
use Rattle.regions.specs.Regions.{Pair, pair}
use Rattle.regions.proofs.Stands.{front_stands}
use Rattle.averages.specs.Averages.{shared}
use Rattle.averages.specs.Loops.{Divides, Divided}
use Rattle.averages.proofs.Shares.{shared_many}
use Rattle.aggregate_svecf32.specs.States.{held, state_of}
use Rattle.aggregate_svecf32.specs.Calls.{finish_of, Sums, Averages}
use Rattle.aggregate_svecf32.specs.declared.Header.{Header}
use Rattle.aggregate_svecf32.proofs.Consistent.{Sure, state_sure}
use Rattle.aggregate_svecf32.proofs.Held.{ends_inside}

-- a state that has begun, and room for its entries in two lists of so many indexes and values
record Finishes (h : Header) (p : Pair) (indexes values : ℕ) : Type 0 where
  sure : Sure h p
  room : h.len ≤ indexes
  room' : h.len ≤ values

finishes : (h : Header) (p : Pair) (i v : ℕ) → finish_of h p i v ≡ Valid → Finishes h p i v
unfolding finish_of
finishes h p i v e =
    let a = next_valid (state_of h p) (refuse (not h.begun) NotBegun (room_of h.len i v)) e in
    let b = refuse_valid (not h.begun) NotBegun (room_of h.len i v) a.1 in
    let r = room_passed h.len i v b.1 in
    record { sure = state_sure h p a.0 (not-false h.begun b.0); room = r.0; room' = r.1 }

module _ (h : Header) (p : Pair) (oi : List ℕ) (ov : List Float) (due : finish_of h p (length oi) (length ov) ≡ Valid) where
  known : Finishes h p (length oi) (length ov)
  known = finishes h p (length oi) (length ov) due

  pub finish_sure : Sure h p
  finish_sure = known.sure

  pub sum_fits : Fitting h.start h.len p 0 (pair oi ov)
  sum_fits =
      let e = ends_inside known.sure in
      record { indexes = e.0; values = e.1; room = omega (arith, known.room); room' = omega (arith, known.room') }

  pub average_fits : Divides (held h p) oi ov
  average_fits =
      let s = known.sure in
      record { sound = s.fair.sound; room = rw s.many known.room; room' = rw s.many known.room' }

  module _ {oi' : List ℕ} {ov' : List Float} where
    pub sum_done : Copied h.start h.len p 0 (pair oi ov) (pair oi' ov') → Sums h p oi ov (Ok (written h.dims h.len)) oi' ov'
    sum_done c =
        let s = known.sure in
        done (held h p) due (sym s.many) (s.many' ∙ sym s.many) (front_stands s.many c.indexes) (front_stands s.many' c.values)

    pub average_done : {n : ℕ} {v : Vector} → v ≡ held h p → Divided (shared h.count v) oi ov n oi' ov'
        → Averages h p oi ov (Ok (written h.dims n)) oi' ov'
    average_done {n} e c =
        let d = subst (λ (v : Vector). Divided (shared h.count v) oi ov n oi' ov') e c in
        done (shared h.count (held h p)) due d.count (shared_many h.count (held h p)) d.indexes d.values
