-- Rows dealt to states: what a run is. A run is any finite sequence of steps, over any number of pairs of lists and of states. Each step that
-- calls does anything that the promise of that call permits (`Rows`, `Combines`, `Moves` of crates/aggregate_svecf32/specs/Calls.antt),
-- refusals and open entries included. In quotes is the sentence that the theorem stands for; docs/PROMISES.md has it whole.
use Rattle.std.specs.Prelude.{ℕ, true, List, [], ◌∷◌, ◌≡◌, Result, Ok, Err}
use Rattle.refusal.specs.declared.Refusal.{Refusal}
use Rattle.sparse.specs.Vectors.{Vector}
use Rattle.regions.specs.Regions.{Pair, part, Apart}
use Rattle.aggregate_svecf32.specs.States.{fresh}
use Rattle.aggregate_svecf32.specs.Calls.{Rows, Combines, Moves}
use Rattle.aggregate_svecf32.specs.declared.Header.{Header}

-- ---- lists and states

-- the pairs of lists, by number
abbrev pub Store : Type 0
Store = ℕ → Pair

-- a state: the number of the pair that it lies in, and its header
pub record State : Type 0 where
  pub lists : ℕ
  pub header : Header

abbrev pub state : ℕ → Header → State
state p h = record { lists = p; header = h }

-- s is one of these states, and the rest are the others
pub data Pick (s : State) : List State → List State → Type 0 where
  here : {ss : List State} → Pick s (s ∷ ss) ss
  there : {t : State} {ss rest : List State} → Pick s ss rest → Pick s (t ∷ ss) (t ∷ rest)

abbrev pub Each : (State → Type 0) → List State → Type 0
Each P [] = Unit {0}
Each P (s ∷ ss) = P s × Each P ss

-- "regions that .. never overlap": the region of s does not overlap n places from `start` on in the pair p
abbrev pub Clear : ℕ → ℕ → ℕ → State → Type 0
Clear p start n s = s.lists ≡ p → Apart start n s.header.start s.header.length

-- the n places from `start` on hold in the lists q what they hold in p
abbrev pub Same : ℕ → ℕ → Pair → Pair → Type 0
Same start n p q = (part start n q.indexes ≡ part start n p.indexes) × (part start n q.values ≡ part start n p.values)

-- "nothing else writes": once s has begun, its region holds what it held
abbrev pub Kept : Store → Store → State → Type 0
Kept m m' s = s.header.begun ≡ true → Same s.header.start s.header.length (m s.lists) (m' s.lists)

-- a call that is lent the pair p to write changes no other
abbrev pub Only : ℕ → Store → Store → Type 0
Only p m m' = (q : ℕ) → (q ≡ p → ⊥) → m' q ≡ m q

-- "two that meet lying in different lists"
abbrev pub Different : State → State → Type 0
Different a b = a.lists ≡ b.lists → ⊥

-- ---- what an answer does

-- the turns, or why the call refused
abbrev pub Told : Type 0
Told = Result ℕ Refusal

-- "with every refused step made good": a refused row is none of the rows taken in, and is to come again
abbrev pub taken_in : Told → Vector → List Vector → List Vector
taken_in (Ok turns) v rows = v ∷ rows
taken_in (Err e) v rows = rows

-- "combine each state away once, unfed after that": b is gone; if that was refused it stays, and is to be combined again
abbrev pub remain : Told → State → List State → List State
remain (Ok turns) b rest = rest
remain (Err e) b rest = b ∷ rest

-- what is asked only of a step that is done: a refused one changes nothing
abbrev pub IfDone : Told → Type 0 → Type 0
IfDone (Ok turns) A = A
IfDone (Err e) A = Unit {0}

-- where a state lies after it was to move from the pair p to the pair q
abbrev pub lies_in : Told → ℕ → ℕ → ℕ
lies_in (Ok turns) p q = q
lies_in (Err e) p q = p

-- ---- runs

-- Run m ss rows: the steps have led to the lists m and the states ss, and the states took in these rows, the last one first. "go on from each
-- header handed back": h is the header that a call leaves
pub data Run : Store → List State → List Vector → Type 0 where
  -- at first there are lists, and no state
  start : (m : Store) → Run m [] []
  -- anything may be written outside the regions of states that have begun, and lists may be lent longer or shorter
  elsewhere : {m : Store} {ss : List State} {rows : List Vector} → Run m ss rows
      → (m' : Store) → Each (Kept m m') ss
      → Run m' ss rows
  -- "any number of fresh states", each in a region that overlaps no other
  begin : {m : Store} {ss : List State} {rows : List Vector} → Run m ss rows
      → (p at n : ℕ) → Each (Clear p at n) ss
      → Run m (state p (fresh at n) ∷ ss) rows
  -- "Deal each row to one of .. [the] states .. feed them in any order"
  feed : {m : Store} {ss : List State} {rows : List Vector} → Run m ss rows
      → (s : State) (rest : List State) → Pick s ss rest
      → (v : Vector) (t : Told) (h : Header) (m' : Store) → Only s.lists m m'
      → Rows s.header (m s.lists) v t h (m' s.lists)
      → Run m' (state s.lists h ∷ rest) (taken_in t v rows)
  -- "combine .. in any tree": b into a
  meet : {m : Store} {ss : List State} {rows : List Vector} → Run m ss rows
      → (a : State) (others : List State) → Pick a ss others
      → (b : State) (rest : List State) → Pick b others rest → Different a b
      → (t : Told) (h : Header) (m' : Store) → Only a.lists m m'
      → Combines a.header (m a.lists) b.header (m b.lists) t h (m' a.lists)
      → Run m' (state a.lists h ∷ remain t b rest) rows
  -- "move states that answer NEED", to regions that overlap no other
  carry : {m : Store} {ss : List State} {rows : List Vector} → Run m ss rows
      → (s : State) (rest : List State) → Pick s ss rest
      → (more p at n : ℕ) (t : Told) (h : Header) → IfDone t (Each (Clear p at n) rest)
      → (m' : Store) → Only p m m'
      → Moves s.header (m s.lists) more (m p) at n t h (m' p)
      → Run m' (state (lies_in t s.lists p) h ∷ rest) rows

-- "until one is left"
abbrev pub Finished : Store → State → List Vector → Type 0
Finished m s rows = Run m (s ∷ []) rows
