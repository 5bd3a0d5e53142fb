-- Calls that write a vector to a pair of lists: what they leave after a refusal and on success, and that only one outcome keeps the
-- promise. Assumes nothing.
use Rattle.std.proofs.Common.{◌≡◌, ℕ, ◌<◌, ◌≤◌, Bool, true, false, ◌||◌, ltb, List, [], ◌++◌, Result, Ok, Err, length, drop, sym, refl, ap, ◌∙◌, ltb-false, le-ltb, lt-ltb}
use mathlib.Core.Bool.{or-true}
use lib.Ieee.{Float}
use Rattle.refusal.specs.Answers.{Checked, Valid, refuse, Says, answer, Answers, leaves, written}
use Rattle.refusal.specs.declared.Refusal.{Refusal}
use Rattle.refusal.specs.declared.Refusal.TheVariants.{Room}
use Rattle.refusal.proofs.Told.{written_answer}
use Rattle.refusal.proofs.Only.{one_answer}
use Rattle.sparse.specs.Vectors.{Vector, size}
use Rattle.sparse.specs.Calls.{room_of, WritesPair, Leaves}

-- ---- the test of the room

pub room_indexes : (n i v : ℕ) → i < n → room_of n i v ≡ Err (Room n)
room_indexes n i v h = rw (lt-ltb i n h)

pub room_values : (n i v : ℕ) → v < n → room_of n i v ≡ Err (Room n)
room_values n i v h = rw (lt-ltb v n h, or-true)

pub room_enough : (n i v : ℕ) → n ≤ i → n ≤ v → room_of n i v ≡ Valid
room_enough n i v h l = rw (le-ltb i n h, le-ltb v n l)

pub room_passed : (n i v : ℕ) → room_of n i v ≡ Valid → (n ≤ i) × (n ≤ v)
room_passed n i v e = go (ltb i n) (ltb v n) refl refl e
  where
    go : (a b : Bool) → ltb i n ≡ a → ltb v n ≡ b → refuse (a || b) (Room n) Valid ≡ Valid → (n ≤ i) × (n ≤ v)
    go false false ea eb q = (ltb-false i n ea, ltb-false v n eb)
    go true b ea eb q = absurd cc
    go false true ea eb q = absurd cc

-- ---- what is left

module _ {A : Type 0} {says_of : Result A Refusal → Says} {numbers : List ℕ} {x : A} {due : Checked} {v : Vector}
    {oi : List ℕ} {ov : List Float} {r : Result A Refusal} where
  pub refused_writes : {n : Refusal} → due ≡ Err n → Answers says_of numbers [] x due r → WritesPair says_of numbers x due v oi ov r oi ov
  refused_writes e told =
      record {
        answer = told;
        indexes = ap (λ (c : Checked). leaves c v.indexes oi) (sym e);
        values = ap (λ (c : Checked). leaves c v.values ov) (sym e);
      }

  pub done_writes : {oi' : List ℕ} {ov' : List Float} → due ≡ Valid → Answers says_of numbers [] x due r
      → oi' ≡ v.indexes ++ drop (size v) oi → length v.values ≡ size v → ov' ≡ v.values ++ drop (size v) ov
      → WritesPair says_of numbers x due v oi ov r oi' ov'
  done_writes e told is many vs =
      record {
        answer = told;
        indexes = is ∙ ap (λ (c : Checked). leaves c v.indexes oi) (sym e);
        values = vs ∙ ap (λ (n : ℕ). v.values ++ drop n ov) (sym many) ∙ ap (λ (c : Checked). leaves c v.values ov) (sym e);
      }

  -- two outcomes that keep the promise are equal
  pub one_writes : {s : Result A Refusal} {oi' oi'' : List ℕ} {ov' ov'' : List Float} → WritesPair says_of numbers x due v oi ov r oi' ov'
      → WritesPair says_of numbers x due v oi ov s oi'' ov'' → (r ≡ s) × (oi' ≡ oi'') × (ov' ≡ ov'')
  one_writes p q = (one_answer p.answer q.answer, p.indexes ∙ sym q.indexes, p.values ∙ sym q.values)

-- ---- a vector that is written, or refused

module _ (v : Vector) {due : Checked} {oi : List ℕ} {ov : List Float} where
  pub refused : {n : Refusal} → due ≡ Err n → Leaves due v oi ov (Err n) oi ov
  refused e = refused_writes e (written_answer v.dims (size v) (ap (answer (written v.dims (size v))) (sym e)))

  pub done : {n : ℕ} {oi' : List ℕ} {ov' : List Float} → due ≡ Valid → n ≡ size v → length v.values ≡ size v
      → oi' ≡ v.indexes ++ drop n oi → ov' ≡ v.values ++ drop n ov → Leaves due v oi ov (Ok (written v.dims n)) oi' ov'
  done e count many is vs =
      done_writes e
      (written_answer v.dims (size v) (ap (λ (n : ℕ). Ok (written v.dims n)) count ∙ ap (answer (written v.dims (size v))) (sym e)))
      (is ∙ ap (λ (n : ℕ). v.indexes ++ drop n oi) count)
      many
      (vs ∙ ap (λ (n : ℕ). v.values ++ drop n ov) count)
