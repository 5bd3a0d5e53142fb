-- What a state that passed its tests is, and that such a state passes them. Assumes nothing.
use Prim.Native.Nat.{◌+◌, ◌≤◌}
use native.Mathlib.Omega.{arith}
use mathlib.Core.Bool.{true, false, not}
use mathlib.Core.Path.{◌≡◌}
use lib.ListN.{length}
use borrow.Author.Tests.{not-false}
use Rattle.refusal.specs.Answers.{Valid, refuse}
use Rattle.refusal.specs.declared.Refusal.TheVariants.{Room, State}
use Rattle.refusal.proofs.Chains.{refuse_valid}
use Rattle.sparse.specs.Vectors.{size}
use Rattle.regions.specs.Regions.{Pair, inside}
use Rattle.regions.proofs.Stands.{inside_both, both_inside, part_length}
use Rattle.headers.proofs.Tests.{Fair as FairNumbers, Bare as BareNumbers, fair_facts, facts_fair, bare_facts, facts_bare}
use Rattle.aggregate_svecf32.specs.States.{held, consistent, state_of}
use Rattle.aggregate_svecf32.specs.declared.Header.{Header}

-- the region lies inside both lists
pub record Inside (h : Header) (p : Pair) : Type 0 where
  pub indexes : h.start + h.length ≤ length p.indexes
  pub values : h.start + h.length ≤ length p.values

-- a header that has begun, and the entries of its region
abbrev pub Fair : Header → Pair → Type 0
Fair h p = FairNumbers h.length h.len h.capacity h.count (held h p)

-- a state that has begun
pub record Sure (h : Header) (p : Pair) : Type 0 where
  pub inside : Inside h p
  pub fair : Fair h p
  pub many : size (held h p) ≡ h.len
  pub many' : length (held h p).values ≡ h.len

-- a header that has not
abbrev pub Bare : Header → Type 0
Bare h = BareNumbers h.dims h.len h.capacity h.count

module _ (h : Header) (p : Pair) where
  pub inside_facts : inside h.start h.length p ≡ true → Inside h p
  inside_facts e = let i = inside_both h.start h.length p e in record { indexes = i.0; values = i.1 }

  tests : state_of h p ≡ Valid → Inside h p × (consistent h p ≡ true)
  unfolding state_of
  tests e =
      let a = refuse_valid (not (inside h.start h.length p)) (Room h.length) (refuse (not (consistent h p)) State Valid) e in
      let b = refuse_valid (not (consistent h p)) State Valid a.1 in
      (inside_facts (not-false (inside h.start h.length p) a.0), not-false (consistent h p) b.0)

  passing : Inside h p → consistent h p ≡ true → state_of h p ≡ Valid
  unfolding state_of
  passing i e = rw (both_inside h.start h.length p i.indexes i.values, e)

  pub state_inside : state_of h p ≡ Valid → Inside h p
  state_inside e = (tests e).0

  pub fair_sure : Inside h p → Fair h p → Sure h p
  fair_sure i f = record {
    inside = i;
    fair = f;
    many = part_length h.start h.len p.indexes (omega arith);
    many' = part_length h.start h.len p.values (omega arith);
  }

  -- a state that has begun and passed, and the way back
  pub state_sure : state_of h p ≡ Valid → h.begun ≡ true → Sure h p
  unfolding consistent
  state_sure e t = let s = tests e in fair_sure s.0 (fair_facts h.length h.len h.capacity h.count (held h p) (rw t at s.1))

  pub fair_state : h.begun ≡ true → Inside h p → Fair h p → state_of h p ≡ Valid
  unfolding consistent
  fair_state t i f = passing i (rw t (facts_fair h.length h.len h.capacity h.count (held h p) f))

  -- one that has not
  pub state_bare : state_of h p ≡ Valid → h.begun ≡ false → Bare h
  unfolding consistent
  state_bare e t = bare_facts h.dims h.len h.capacity h.count (rw t at (tests e).1)

  pub bare_state : h.begun ≡ false → Inside h p → Bare h → state_of h p ≡ Valid
  unfolding consistent
  bare_state t i b = passing i (rw t (facts_bare h.dims h.len h.capacity h.count b))
