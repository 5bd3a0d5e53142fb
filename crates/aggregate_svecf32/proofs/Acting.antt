-- What a call on a state has to show, once for all calls: after a refusal nothing changed, and else its vector stands in the lists. And two
-- outcomes that a call may have are equal, but in the open places of the lists. Assumes nothing.
use Rattle.std.proofs.Common.{◌≡◌, ℕ, ◌+◌, Bool, true, false, List, [], Result, Ok, Err, length, take, drop, get_or, refl, sym, ap, ap₂, ◌∙◌}
use Rattle.refusal.specs.Answers.{Checked, Valid, Says, says, checked_says, answer}
use Rattle.refusal.specs.declared.Refusal.{Refusal}
use Rattle.refusal.proofs.Decides.{checked_decided}
use Rattle.sparse.specs.Vectors.{size}
use Rattle.regions.specs.Loops.{Copied}
use Rattle.regions.specs.Regions.{Pair, pair, part, Stands}
use Rattle.regions.proofs.Stands.{stands_one, stands_same}
use Rattle.aggregate_svecf32.specs.States.{numbers_of, header_from}
use Rattle.aggregate_svecf32.specs.Calls.{Deed, told_says, told_tells, handed_back, Left, Acts}
use Rattle.aggregate_svecf32.specs.declared.Header.{Header}

-- ---- what an answer says, with the header beside it, decides both, since no refusal has the number 0, which is done

pub header_back : (h : Header) → header_from (numbers_of h) ≡ h
header_back h = go h.begun refl
  where
    go : (b : Bool) → h.begun ≡ b → header_from (numbers_of h) ≡ h
    go true e = rw e
    go false e = rw e

header_said : (h : Header) (r : Result ℕ Refusal) → header_from (drop 1 (told_says h r).values) ≡ h
header_said h (Ok turns) = header_back h
header_said h (Err r) = header_back h

-- whether it is done, or why not
tested : Result ℕ Refusal → Checked
tested (Ok turns) = Valid
tested (Err r) = Err r

tested_said : (h : Header) (r : Result ℕ Refusal) → says (told_says h r).number (told_says h r).place [] ≡ checked_says (tested r)
unfolding tested
tested_said h (Ok turns) = refl
tested_said h (Err r) = refl

same_tested : (r s : Result ℕ Refusal) (h g : Header) → told_says h r ≡ told_says g s → tested r ≡ tested s → r ≡ s
unfolding tested
same_tested (Ok m) (Ok n) h g e f = let t : m ≡ n = ap (λ (x : Says). get_or x.values 0 0) e in ap Ok t
same_tested (Ok m) (Err r) h g e f = absurd cc
same_tested (Err r) (Ok n) h g e f = absurd cc
same_tested (Err r) (Err t) h g e f = let q : r ≡ t = cc in ap Err q

pub told_decided : (r s : Result ℕ Refusal) (h g : Header) → told_says h r ≡ told_says g s → (r ≡ s) × (h ≡ g)
told_decided r s h g e =
    let one : tested r ≡ tested s =
    checked_decided (tested r) (tested s)
    (sym (tested_said h r) ∙ ap (λ (x : Says). says x.number x.place []) e ∙ tested_said g s)
    in (
      same_tested r s h g e one,
      sym (header_said h r) ∙ ap (λ (x : Says). header_from (drop 1 x.values)) e ∙ header_said g s,
    )

-- ---- what a call does

told_fair : (h new : Header) (turns : ℕ) (due : Checked) → told_says (handed_back h new due) (answer turns due) ≡ told_tells h new turns due
told_fair h new turns (Ok tt) = refl
told_fair h new turns (Err r) = refl

module _ {h : Header} {due : Checked} (d : Deed) {p : Pair} where
  acts : {r : Result ℕ Refusal} {h' : Header} {q : Pair} → r ≡ answer d.turns due → h' ≡ handed_back h d.header due
      → Left due d.header.start d.room d.vector.indexes p.indexes q.indexes → Left due d.header.start d.room d.vector.values p.values q.values
      → Acts h due d p r h' q
  acts e f is vs = record { told = ap₂ told_says f e ∙ told_fair h d.header d.turns due; answer = e; header = f; indexes = is; values = vs }

  pub acts_refused : {r : Refusal} → due ≡ Err r → Acts h due d p (Err r) h p
  acts_refused e =
      acts (ap (answer d.turns) (sym e)) (ap (handed_back h d.header) (sym e)) (rw e refl) (rw e refl)

  pub acts_done : {q : Pair} → due ≡ Valid → Stands d.header.start d.room d.vector.indexes p.indexes q.indexes
      → Stands d.header.start d.room d.vector.values p.values q.values → Acts h due d p (Ok d.turns) d.header q
  acts_done e is vs = acts (ap (answer d.turns) (sym e)) (ap (handed_back h d.header) (sym e)) (rw e is) (rw e vs)

-- ---- a vector that is copied: the entries of other lists from `from` on

pub acts_copied : {h : Header} {due : Checked} (d : Deed) {o p q : Pair} {from : ℕ}
    → part from d.room o.indexes ≡ d.vector.indexes → part from d.room o.values ≡ d.vector.values
    → due ≡ Valid → Copied from d.room o d.header.start p q → Acts h due d p (Ok d.turns) d.header q
acts_copied d is vs e c = acts_done d e (rw is at c.indexes) (rw vs at c.values)

-- ---- what two outcomes have in common

-- two lists agree before the open places, from `low` up to `high`, and after them
pub record Agree {ℓ} {A : Type ℓ} (low high : ℕ) (a b : List A) : Type ℓ where
  pub before : take low a ≡ take low b
  pub after : drop high a ≡ drop high b

agree {ℓ} : {A : Type ℓ} {start room : ℕ} {xs old a b : List A} → Stands start room xs old a → Stands start room xs old b
    → Agree (start + length xs) (start + room) a b
agree f g = let s = stands_one f g in record { before = s.0; after = s.1 }

-- after a refusal the lists are equal, and else all but the open places: those within the room that the vector does not fill
abbrev pub Alike : Checked → Deed → Pair → Pair → Type 0
Alike (Ok u) d a b =
    let low = d.header.start in
    Agree (low + size d.vector) (low + d.room) a.indexes b.indexes
    × Agree (low + length d.vector.values) (low + d.room) a.values b.values
Alike (Err r) d a b = a ≡ b

-- the vector fills the room
abbrev pub Filled : Deed → Type 0
Filled d = (size d.vector ≡ d.room) × (length d.vector.values ≡ d.room)

-- what is left of both lists
abbrev BothLeft : Checked → Deed → Pair → Pair → Type 0
BothLeft due d p q =
    Left due d.header.start d.room d.vector.indexes p.indexes q.indexes
    × Left due d.header.start d.room d.vector.values p.values q.values

alike : (due : Checked) (d : Deed) (p a b : Pair) → BothLeft due d p a → BothLeft due d p b → Alike due d a b
alike (Ok tt) d p a b f g = (agree f.0 g.0, agree f.1 g.1)
alike (Err r) d p a b f g = ap₂ pair (f.0 ∙ sym g.0) (f.1 ∙ sym g.1)

same : (due : Checked) (d : Deed) (p a b : Pair) → (due ≡ Valid → Filled d) → BothLeft due d p a → BothLeft due d p b → a ≡ b
same (Err r) d p a b fills f g = alike (Err r) d p a b f g
same (Ok tt) d p a b fills f g =
    let e = fills refl in
    let i = rw (← e.0) at f.0 in
    let j = rw (← e.0) at g.0 in
    let v = rw (← e.1) at f.1 in
    let w = rw (← e.1) at g.1 in
    ap₂ pair (stands_same i j) (stands_same v w)

module _ {h : Header} {due : Checked} {d : Deed} {p : Pair} {r s : Result ℕ Refusal} {h' h'' : Header} {a b : Pair}
    (f : Acts h due d p r h' a) (g : Acts h due d p s h'' b) where
  pub one_acts : (r ≡ s) × (h' ≡ h'') × Alike due d a b
  one_acts = (f.answer ∙ sym g.answer, f.header ∙ sym g.header, alike due d p a b (f.indexes, f.values) (g.indexes, g.values))

  -- where the vector fills the room nothing is open
  pub one_filled : (due ≡ Valid → Filled d) → (r ≡ s) × (h' ≡ h'') × (a ≡ b)
  one_filled fills = (f.answer ∙ sym g.answer, f.header ∙ sym g.header, same due d p a b fills (f.indexes, f.values) (g.indexes, g.values))
