-- What a call answers: a value, or why it refuses. The tests of a call stand in one chain, and the first that holds is the refusal. For each
-- kind of answer: what it says in document 01's numbers and values, and which answer it is where the tests found something or nothing.
use Rattle.std.specs.Prelude.{ℕ, Bool, cond, List, [], ◌∷◌, ◌++◌, map, ◌≡◌, length, drop, Float, Option, Some, None, Result, Ok, Err}
use Rattle.std.specs.declared.cmp.Ordering.{Ordering}
use Rattle.std.specs.declared.cmp.Ordering.TheVariants.{Less, Equal, Greater}
use Rattle.refusal.specs.Numbers.{number_of, place_of}
use Rattle.refusal.specs.declared.Refusal.{Refusal}
use Rattle.refusal.specs.declared.Written.{Written}
use Rattle.refusal.specs.declared.Merged.{Merged}

-- ---- the tests of a call, in their order

-- what tests find: nothing, or the first refusal that applies
abbrev pub Checked : Type 0
Checked = Result (Unit {0}) Refusal

abbrev pub Valid : Checked
Valid = Ok tt

-- the refusal r if the test holds, and what the later tests find if not
abbrev pub refuse : Bool → Refusal → Checked → Checked
refuse test r later = cond test (Err r) later

-- what the first tests find, and what the later ones find where the first find nothing
abbrev pub next : Checked → Checked → Checked
next (Ok u) later = later
next (Err r) later = Err r

-- the answer of a call that gives x where its tests find nothing
abbrev pub answer : {A : Type 0} → A → Checked → Result A Refusal
answer x (Ok u) = Ok x
answer x (Err r) = Err r

-- ---- an answer in the words of document 01

-- the number of an answer, the place it carries, its other numbers, and its floats; 0 is done, and carries 0. This is all that an answer
-- says: which one it is follows (proofs/Decides)
pub record Says : Type 0 where
  pub number : ℕ
  pub place : ℕ
  pub values : List ℕ
  pub floats : List Float

abbrev pub gives : ℕ → ℕ → List ℕ → List Float → Says
gives n p vs fs = record { number = n; place = p; values = vs; floats = fs }

-- numbers alone
abbrev pub says : ℕ → ℕ → List ℕ → Says
says n p vs = gives n p vs []

-- a refusal, and numbers beside it
abbrev pub refused : Refusal → List ℕ → Says
refused r vs = says (number_of r) (place_of r) vs

-- what is to be said where the tests find `due`: these numbers and floats; "Other numbers beside a refusal are 0; a distance call answers a
-- float or a refusal number, never both."
abbrev pub tells : List ℕ → List Float → Checked → Says
tells vs fs (Ok u) = gives 0 0 vs fs
tells vs fs (Err r) = refused r (map (λ v. 0) vs)

-- ---- what each kind of answer says

abbrev pub checked_says : Checked → Says
checked_says (Ok u) = says 0 0 []
checked_says (Err r) = refused r []

-- "a distance call answers a float or a refusal number, never both"
abbrev pub distance_says : Result Float Refusal → Says
distance_says (Ok x) = gives 0 0 [] (x ∷ [])
distance_says (Err r) = refused r []

-- the dims and the number of entries written
abbrev pub written_says : Result Written Refusal → Says
written_says (Ok w) = says 0 0 (w.dims ∷ w.len ∷ [])
written_says (Err r) = refused r (0 ∷ 0 ∷ [])

-- the dims, the number of entries written, and the turns
abbrev pub merged_says : Result Merged Refusal → Says
merged_says (Ok m) = says 0 0 (m.dims ∷ m.len ∷ m.turns ∷ [])
merged_says (Err r) = refused r (0 ∷ 0 ∷ 0 ∷ [])

-- 1 for yes
abbrev pub yes_number : Bool → ℕ
yes_number b = cond b 1 0

abbrev pub asked_says : Result Bool Refusal → Says
asked_says (Ok b) = says 0 0 (yes_number b ∷ [])
asked_says (Err r) = refused r (0 ∷ [])

-- 1 for less, 2 for equal, 3 for greater, 4 for no order
abbrev pub order_number : Option Ordering → ℕ
order_number (Some Less) = 1
order_number (Some Equal) = 2
order_number (Some Greater) = 3
order_number None = 4

abbrev pub order_says : Result (Option Ordering) Refusal → Says
order_says (Ok o) = says 0 0 (order_number o ∷ [])
order_says (Err r) = refused r (0 ∷ [])

-- ---- the answer of a call, where its tests find `due`

-- the answer r is that of a call that gives x, and says these numbers and floats
pub record Answers {A : Type 0} (says_of : Result A Refusal → Says) (vs : List ℕ) (fs : List Float) (x : A) (due : Checked) (r : Result A Refusal)
    : Type 0 where
  pub told : says_of r ≡ tells vs fs due
  pub answer : r ≡ answer x due

-- a check that is the due one
abbrev pub Checks : Checked → Checked → Type 0
Checks = Answers checked_says [] [] tt

-- a distance x
abbrev pub Measures : Float → Checked → Result Float Refusal → Type 0
Measures x = Answers distance_says [] (x ∷ []) x

-- whether b holds
abbrev pub Asks : Bool → Checked → Result Bool Refusal → Type 0
Asks b = Answers asked_says (yes_number b ∷ []) [] b

-- an order, or none
abbrev pub Orders : Option Ordering → Checked → Result (Option Ordering) Refusal → Type 0
Orders o = Answers order_says (order_number o ∷ []) [] o

-- ---- what a call leaves in a lent output

-- "A refusal changes nothing that was lent. On success an output holds the answer in its first n entries and is unchanged after them."
abbrev pub leaves {ℓ} : {A : Type ℓ} → Checked → List A → List A → List A
leaves (Ok u) new old = new ++ drop (length new) old
leaves (Err r) new old = old

-- a vector of d places that has n entries or words is written
abbrev pub written : ℕ → ℕ → Written
written d n = record { dims = d; len = n }

abbrev pub Wrote : ℕ → ℕ → Checked → Result Written Refusal → Type 0
Wrote d n = Answers written_says (d ∷ n ∷ []) [] (written d n)

-- a vector of d places is written as the list `new`
pub record Writes (due : Checked) (d : ℕ) (new old : List ℕ) (r : Result Written Refusal) (left : List ℕ) : Type 0 where
  pub answer : Wrote d (length new) due r
  pub output : left ≡ leaves due new old
