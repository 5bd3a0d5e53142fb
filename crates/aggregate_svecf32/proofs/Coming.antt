-- A vector comes to a state, and the tests before it: where they pass a row and a combine do what taking the vector does. Assumes nothing.
use Prim.Native.Nat.{ℕ}
use mathlib.Core.Bool.{Bool, true, false, cond}
use mathlib.Core.List.{[]}
use mathlib.Core.Path.{◌≡◌, refl, sym, subst}
use Rattle.std.specs.Prelude.{Result, Ok, Err}
use Rattle.refusal.specs.Answers.{Checked, Valid}
use Rattle.refusal.specs.declared.Refusal.{Refusal}
use Rattle.sparse.specs.Vectors.{Vector, vector}
use Rattle.sparse.specs.Calls.{checked_of}
use Rattle.regions.specs.Regions.{Pair}
use Rattle.regions.proofs.Stands.{none_stands}
use Rattle.aggregate_svecf32.specs.States.{held, state_of}
use Rattle.aggregate_svecf32.specs.Calls.{deed, Acts, begin_of, begun, merge_of, merged, take_of, taken, row_of, combine_of, combined}
use Rattle.aggregate_svecf32.specs.declared.Header.{Header}
use Rattle.aggregate_svecf32.proofs.Acting.{acts_done}

-- a call that is due the same does the same
acts_same : {h h' : Header} {due other : Checked} {d : _} {p q : Pair} {r : Result ℕ Refusal} → other ≡ due → Acts h due d p r h' q → Acts h other d p r h' q
acts_same {h} {h'} {d = d} {p} {q} {r} e = subst (λ (c : Checked). Acts h c d p r h' q) (sym e)

module _ (h : Header) (p : Pair) where
  module _ (v : Vector) (more : ℕ) {r : Result ℕ Refusal} {h' : Header} {q : Pair} where
    either : (b : Bool) → h.begun ≡ b
        → Acts h (cond b (merge_of h v more) (begin_of h v)) (cond b (merged h p v more) (begun h v more)) p r h' q
        → Acts h (take_of h v more) (taken h p v more) p r h' q
    either b e =
        subst (λ (b : Bool). Acts h (cond b (merge_of h v more) (begin_of h v)) (cond b (merged h p v more) (begun h v more)) p r h' q) (sym e)

    pub take_merge : h.begun ≡ true → Acts h (merge_of h v more) (merged h p v more) p r h' q → Acts h (take_of h v more) (taken h p v more) p r h' q
    take_merge = either true

    pub take_begin : h.begun ≡ false → Acts h (begin_of h v) (begun h v more) p r h' q → Acts h (take_of h v more) (taken h p v more) p r h' q
    take_begin = either false

  -- ---- a row
  module _ (v : Vector) where
    pub row_bad : {r : Refusal} → checked_of v ≡ Err r → row_of h p v ≡ Err r
    unfolding row_of
    row_bad e = rw e

    module _ (passed : checked_of v ≡ Valid) where
      pub row_state : {r : Refusal} → state_of h p ≡ Err r → row_of h p v ≡ Err r
      unfolding row_of
      row_state e = rw (passed, e)

      pub row_on : state_of h p ≡ Valid → {r : Result ℕ Refusal} {h' : Header} {q : Pair} → Acts h (take_of h v 1) (taken h p v 1) p r h' q
          → Acts h (row_of h p v) (taken h p v 1) p r h' q
      unfolding row_of
      row_on e = acts_same (rw (passed, e))

  -- ---- a second state
  module _ (g : Header) (o : Pair) where
    pub combine_bad : {r : Refusal} → state_of g o ≡ Err r → combine_of h p g o ≡ Err r
    unfolding combine_of
    combine_bad e = rw e

    module _ (passed : state_of g o ≡ Valid) where
      pub combine_state : {r : Refusal} → state_of h p ≡ Err r → combine_of h p g o ≡ Err r
      unfolding combine_of
      combine_state e = rw (passed, e)

      module _ (fair : state_of h p ≡ Valid) where
        due : combine_of h p g o ≡ cond g.begun (take_of h (held g o) g.count) Valid
        unfolding combine_of
        due = rw (passed, fair)

        goes : {r : Result ℕ Refusal} {h' : Header} {q : Pair} (b : Bool) → g.begun ≡ b
            → Acts h (cond b (take_of h (held g o) g.count) Valid) (cond b (taken h p (held g o) g.count) (deed h 0 0 (vector 0 [] []))) p r h' q
            → Acts h (combine_of h p g o) (combined h p g o) p r h' q
        goes {r} {h'} {q} b e acts =
            acts_same due
            (subst
            (λ (b : Bool).
            Acts h (cond b (take_of h (held g o) g.count) Valid) (cond b (taken h p (held g o) g.count) (deed h 0 0 (vector 0 [] []))) p r h' q)
            (sym e)
            acts)

        -- one without rows changes nothing
        pub combine_none : g.begun ≡ false → Acts h (combine_of h p g o) (combined h p g o) p (Ok 0) h p
        combine_none e = goes false e (acts_done (deed h 0 0 (vector 0 [] [])) refl none_stands none_stands)

        -- and else its entries are taken
        pub combine_on : g.begun ≡ true → {v : Vector} → v ≡ held g o → {r : Result ℕ Refusal} {h' : Header} {q : Pair}
            → Acts h (take_of h v g.count) (taken h p v g.count) p r h' q
            → Acts h (combine_of h p g o) (combined h p g o) p r h' q
        combine_on t e {r} {h'} {q} acts =
            goes true t (subst (λ (v : Vector). Acts h (take_of h v g.count) (taken h p v g.count) p r h' q) e acts)
