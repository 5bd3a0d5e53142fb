-- What the answer of a merge tells of the line to print, where there is room for any two vectors of 128 entries. Assumes nothing.
use Prim.Native.Nat.{ℕ, ◌≤◌}
use native.Mathlib.Omega.{arith}
use mathlib.Core.List.{List, ◌++◌}
use mathlib.Core.Path.{◌≡◌, refl, sym, ap, ◌∙◌}
use lib.ListN.{length, take, drop}
use lib.Ieee.{Float}
use Rattle.std.specs.Prelude.{Result, Ok, Err}
use Rattle.refusal.specs.Answers.{Checked, Valid, next, leaves}
use Rattle.refusal.specs.Numbers.{number_of, place_of}
use Rattle.refusal.specs.declared.Refusal.{Refusal}
use Rattle.refusal.specs.declared.Merged.{Merged}
use Rattle.refusal.proofs.Told.{value_told, refusal_told}
use Rattle.sparse.specs.Vectors.{Vector, size, at}
use Rattle.sparse.specs.Calls.{pair_of, room_of}
use Rattle.sparse.proofs.Entries.{as_many}
use Rattle.sparse.proofs.Writes.{room_enough}
use Rattle.merges.specs.Algebra.{joined, joins, room_for}
use Rattle.merges.specs.Calls.{Joins}
use Rattle.merges.specs.declared.Op.{Op}
use Rattle.merges.specs.declared.Op.TheVariants.{Add, Sub, Mul}
use Rattle.texts.specs.Texts.{vector_text, refused_text}
use Rattle.entry_bits.specs.Operands.{Operand}
use Rattle.session.specs.Sessions.{asks}
use Rattle.entry_bits.specs.Operands.{valued, shown}
use Rattle.session.specs.Answers.{told, text_of}
use Rattle.session.proofs.Fronts.{front, front_count}

-- ---- the answer of a merge

-- where the tests found nothing, what was to be written is in front
leaves_all {ℓ} : {A : Type ℓ} (new old : List A) {due : Checked} {n : ℕ} → due ≡ Valid → length new ≡ n → leaves due new old ≡ new ++ drop n old
leaves_all new old none many = ap (λ (c : Checked). leaves c new old) none ∙ ap (λ (k : ℕ). new ++ drop k old) many

-- ---- the room is enough

room_most : (op : Op) (d m n : ℕ) → m ≤ 128 → n ≤ 128 → room_for op d m n ≤ 256
room_most Add d m n h l = omega arith
room_most Sub d m n h l = omega arith
room_most Mul d m n h l = omega arith

next_none : (c : Checked) → next c Valid ≡ c
next_none (Ok u) = refl
next_none (Err r) = refl

-- ---- what is to be printed

-- what two vectors as they were read give
abbrev given : Op → Operand → Operand → Vector
given op a b = joins op (valued a) (valued b)

-- its line is to be printed, with the dims d, and its n entries are in front of two lists
pub record Came (op : Op) (a b : Operand) (d n : ℕ) (oi : List ℕ) (ov : List Float) : Type 0 where
  pub line : text_of (asks op a b) ≡ vector_text d (given op a b).indexes (shown op a b (given op a b).indexes (given op a b).values)
  pub indexes : take n oi ≡ (given op a b).indexes
  pub values : take n ov ≡ (given op a b).values
  pub many : n ≡ length (take n oi)
  pub many' : n ≡ length (take n ov)

-- a merge was called on two vectors, with the values that have the bits that were read, and with room for 256 entries
module _ (op : Op) (a b : Operand) (short : length a.indexes ≤ 128) (short' : length b.indexes ≤ 128) {x y : Vector}
    (left : x ≡ valued a) (right : y ≡ valued b) (oi : List ℕ) (ov : List Float) (room : length oi ≡ 256) (room' : length ov ≡ 256) where
  abbrev v : Vector
  v = given op a b

  -- the tests of the vectors decide
  roomy : next (pair_of (valued a) (valued b)) (room_of (room_for op a.dims (length a.indexes) (length b.indexes)) (length oi) (length ov))
      ≡ pair_of (valued a) (valued b)
  roomy =
      let n = room_for op a.dims (length a.indexes) (length b.indexes) in
      let most = room_most op a.dims (length a.indexes) (length b.indexes) short short' in
      ap (next (pair_of (valued a) (valued b))) (room_enough n (length oi) (length ov) (omega (arith, most, room)) (omega (arith, most, room')))
      ∙ next_none (pair_of (valued a) (valued b))

  module _ {r : Result Merged Refusal} {oi' : List ℕ} {ov' : List Float} (called : Joins op x y oi ov r oi' ov') where
    as_read : (r' : Result Merged Refusal) → r ≡ r' → Joins op (valued a) (valued b) oi ov r' oi' ov'
    as_read r' e = rw (left, right, e) at called

    pub told_refused : {e : Refusal} → r ≡ Err e → text_of (asks op a b) ≡ refused_text (number_of e) (place_of e)
    told_refused {e} is =
        let j = as_read (Err e) is in
        ap (λ (c : Checked). told c op a b) (sym roomy ∙ refusal_told _ _ e (sym j.answer.answer))

    pub told_done : {m : Merged} → r ≡ Ok m → Came op a b m.dims m.len oi' ov'
    told_done {m} is =
        let j = as_read (Ok m) is in
        let due = value_told _ m _ (sym j.answer.answer) in
        let count : m.len ≡ size v = ap (λ (w : Merged). w.len) due.1 in
        let even : length v.values ≡ m.len = as_many (λ k. joined op (at (valued a) k) (at (valued b) k)) a.dims ∙ sym count in
        let ls : oi' ≡ v.indexes ++ drop m.len oi = j.indexes ∙ leaves_all v.indexes oi due.0 (sym count) in
        let vs : ov' ≡ v.values ++ drop m.len ov = j.values ∙ leaves_all v.values ov due.0 even in
        record {
          line = ap (λ (c : Checked). told c op a b) (sym roomy ∙ due.0) ∙ rw (ap (λ (w : Merged). w.dims) due.1);
          indexes = front v.indexes oi m.len ls (sym count);
          values = front v.values ov m.len vs even;
          many = front_count v.indexes oi m.len ls (sym count);
          many' = front_count v.values ov m.len vs even;
        }
