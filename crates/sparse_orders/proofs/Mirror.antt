-- Turning the operands round mirrors every answer of `partial_cmp`. Assumes nothing.
use Rattle.std.proofs.Common.{◌≡◌, ℕ, Bool, true, false, not, cond, ltb, eqb, Option, Some, None, Result, Ok, Err, refl, sym, ap, ◌∙◌, ⊎_elim, true≢false, eq-or-lt_of_le, arith, lt-ltb, le-ltb, eq-eqb, ne_eqb}
use Rattle.std.proofs.lemmas.Cmp.{nat_eq_equiv}
use Rattle.std.specs.declared.cmp.Ordering.{Ordering}
use Rattle.std.specs.declared.cmp.Ordering.TheVariants.{Less, Equal, Greater}
use native.Mathlib.Nat.{min_comm}
use mathlib.Core.Path.{fun_ext}
use lib.Ieee.{Float, eq, lt}
use Rattle.places.proofs.Below.{le_or_lt}
use Rattle.refusal.specs.Answers.{Checked, Valid, answer}
use Rattle.refusal.specs.declared.Refusal.{Refusal}
use Rattle.refusal.proofs.Told.{order_answer}
use Rattle.refusal.proofs.Chains.{next_valid}
use Rattle.sparse.specs.Calls.{checked_of, each_of}
use Rattle.sparse.specs.Cells.{zero32}
use Rattle.sparse.specs.Vectors.{Vector, size}
use Rattle.sparse_orders.specs.Calls.{Compares}
use Rattle.sparse_orders.specs.Dense.{answered, turn, mirror}
use Rattle.sparse_orders.specs.Orders.{index_at, value_at, same_entry, compared, alone, entries_decide, decided, order_by}
use Rattle.sparse_orders.proofs.Floats.{one_way, eq_turned}

-- ---- values, entries, vectors

compared_turned : (x y : Float) → compared y x ≡ turn (compared x y)
compared_turned x y = rw (eq_turned y x) (go (lt x y) (lt y x) (eq x y) (one_way x y))
  where
    go : (p q e : Bool) → (p ≡ true → q ≡ false)
        → cond q (Some Less) (cond p (Some Greater) (cond e (Some Equal) None)) ≡ turn (cond p (Some Less) (cond q (Some Greater) (cond e (Some Equal) None)))
    go true true e h = absurd (true≢false (h refl))
    go true false e h = refl
    go false true e h = refl
    go false false true h = refl
    go false false false h = refl

alone_turned : (x y : Float) → alone y x ≡ turn (alone x y)
alone_turned x y = go (lt x y) (lt y x) (one_way x y)
  where
    go : (p q : Bool) → (p ≡ true → q ≡ false) → cond q (Some Less) (cond p (Some Greater) None) ≡ turn (cond p (Some Less) (cond q (Some Greater) None))
    go true true h = absurd (true≢false (h refl))
    go true false h = refl
    go false true h = refl
    go false false h = refl

entries_turned : (i : ℕ) (x : Float) (j : ℕ) (y : Float) → entries_decide j y i x ≡ turn (entries_decide i x j y)
entries_turned i x j y =
    ⊎_elim
    (λ h.
    ⊎_elim
    (λ e. rw (eq-eqb j i (sym e), eq-eqb i j e) (compared_turned x y))
    (λ l. rw (ne_eqb j i (λ e. omega arith), ne_eqb i j (λ e. omega arith), le-ltb j i (omega arith), lt-ltb i j l) (alone_turned x zero32))
    (eq-or-lt_of_le h))
    (λ l. rw (ne_eqb j i (λ e. omega arith), ne_eqb i j (λ e. omega arith), lt-ltb j i l, le-ltb i j (omega arith)) (alone_turned zero32 y))
    (le_or_lt i j)

decided_turned : (a b : Vector) (i : ℕ) → decided b a i ≡ turn (decided a b i)
decided_turned a b i = go (ltb i (size a)) (ltb i (size b))
  where
    go : (p q : Bool)
        → cond q (cond p (entries_decide (index_at b i) (value_at b i) (index_at a i) (value_at a i)) (compared (value_at b i) zero32))
        (cond p (compared zero32 (value_at a i)) (Some Equal))
        ≡ turn
        (cond p (cond q (entries_decide (index_at a i) (value_at a i) (index_at b i) (value_at b i)) (compared (value_at a i) zero32))
        (cond q (compared zero32 (value_at b i)) (Some Equal)))
    go true true = entries_turned (index_at a i) (value_at a i) (index_at b i) (value_at b i)
    go true false = compared_turned (value_at a i) zero32
    go false true = compared_turned zero32 (value_at b i)
    go false false = refl

eqb_turned : (m n : ℕ) → eqb m n ≡ eqb n m
eqb_turned = nat_eq_equiv.symm

same_turned : (a b : Vector) (i : ℕ) → same_entry b a i ≡ same_entry a b i
same_turned a b i = rw (eqb_turned (index_at b i) (index_at a i), eq_turned (value_at b i) (value_at a i))

order_turned : (a b : Vector) → order_by b a ≡ turn (order_by a b)
order_turned a b =
    let e : ◌≡◌ {A = ℕ → Bool} (λ i. not (same_entry b a i)) (λ i. not (same_entry a b i)) = fun_ext (λ i. ap not (same_turned a b i)) in
    rw (min_comm (size b) (size a), e) (decided_turned a b _)

-- ---- the calls

-- an answer that is no refusal: both vectors are valid
pub answered_valid : (o : Option Ordering) (due : Checked) → answered (answer o due) ≡ true → due ≡ Valid
answered_valid o (Ok tt) h = refl
answered_valid o (Err r) h = absurd (true≢false (sym h))

module _ (a b : Vector) where
  -- what the call answers where both vectors are valid
  abbrev pub order_is : Option Ordering
  order_is = cond (eqb a.dims b.dims) (order_by a b) None

  pub compares : {r : Result (Option Ordering) Refusal} → r ≡ answer order_is (each_of a b) → Compares a b r
  compares e = order_answer order_is e

  pub valid_answer : {r : Result (Option Ordering) Refusal} → Compares a b r → checked_of a ≡ Valid → checked_of b ≡ Valid → r ≡ Ok order_is
  valid_answer c va vb = c.answer ∙ rw (va, vb)

  pub answer_is : {r : Result (Option Ordering) Refusal} → Compares a b r → answered r ≡ true
      → (checked_of a ≡ Valid) × (checked_of b ≡ Valid) × (r ≡ Ok order_is)
  answer_is c h =
      let v = next_valid (checked_of a) (checked_of b) (answered_valid order_is (each_of a b) (rw (← c.answer) h)) in
      (v.0, v.1, valid_answer c v.0 v.1)

turned : (a b : Vector) → order_is b a ≡ turn (order_is a b)
turned a b = rw (eqb_turned b.dims a.dims) (go (eqb a.dims b.dims))
  where
    go : (t : Bool) → cond t (order_by b a) None ≡ turn (cond t (order_by a b) None)
    go true = order_turned a b
    go false = refl

-- for any two vectors, valid or not: where `partial_cmp` answers an order or that there is none, it answers the mirror image the other way round
pub mirrored : (a b : Vector) {r s : Result (Option Ordering) Refusal} → Compares a b r → Compares b a s → answered r ≡ true → s ≡ mirror r
mirrored a b c d h =
    let v = answer_is a b c h in
    valid_answer b a d v.1 v.0 ∙ ap Ok (turned a b) ∙ ap mirror (sym v.2)
