-- In any run no two regions overlap, each state took in some of the rows, and together they took in all. Assumes nothing.
use Prim.Native.Nat.{ℕ}
use native.Mathlib.Decide.{ℕ_discrete}
use mathlib.Core.List.Perm
use mathlib.Core.List.{List, [], ◌∷◌, ◌++◌, append_assoc, Perm}
use mathlib.Core.List.{perm_append_comm}
use mathlib.Core.Path.{◌≡◌, refl, sym}
use Rattle.std.proofs.Common.{Ok, Err}
use Rattle.sparse.specs.Vectors.{Vector}
use Rattle.regions.specs.Regions.{Pair}
use Rattle.aggregate_svecf32.specs.States.{fresh}
use Rattle.aggregate_svecf32.specs.Calls.{Rows, Combines, Moves}
use Rattle.aggregate_svecf32.specs.declared.Header.{Header}
use Rattle.dealing.specs.Runs.{Store, State, state, Pick, here, there, Each, Clear, Kept, Only, Told, taken_in, remain, IfDone}
use Rattle.dealing.specs.Runs.{lies_in}
use Rattle.dealing.specs.Runs.{Run, start, elsewhere, begin, feed, meet, carry}
use Rattle.dealing.proofs.Holding.{Holding, bare, holding_kept, Lies, lies_same, took, row_lies, combine_lies, Went, move_lies}

-- the region of t does not overlap that of s
abbrev Free : State → State → Type 0
Free s = Clear s.lists s.header.start s.header.length

-- each state holds some of the rows, and together they hold them all
pub data Owns (m : Store) : List State → List Vector → Type 0 where
  none : Owns m [] []
  more : {s : State} {ss : List State} {rows : List Vector} (own others : List Vector)
      → Holding (m s.lists) s.header own → Each (Free s) ss → Owns m ss others → Perm (own ++ others) rows → Owns m (s ∷ ss) rows

-- ---- one state and the others

turn {ℓ} : {A : Type ℓ} (a b c : List A) → Perm (a ++ (b ++ c)) (b ++ (a ++ c))
turn a b c = rw (← append_assoc a b c, ← append_assoc b a c) (Perm.append_right c (perm_append_comm a b))

free_sym : (s t : State) → Free s t → Free t s
free_sym s t c e i a b c' d = c (sym e) i c' d a b

each_pick : (P : State → Type 0) {s : State} {ss rest : List State} → Pick s ss rest → Each P ss → P s × Each P rest
each_pick P here e = (e.0, e.1)
each_pick P (there k) e = let r = each_pick P k e.1 in (r.0, (e.0, r.1))

-- two states in front change places
swap : {m : Store} {s t : State} {rest : List State} {rows : List Vector} (own others : List Vector) → Holding (m t.lists) t.header own
    → Free t s → Each (Free t) rest → Owns m (s ∷ rest) others → Perm (own ++ others) rows → Owns m (s ∷ t ∷ rest) rows
swap {s = s} {t = t} {rest = rest} own others h f g (more o x k e w q) p =
    more {ss = t ∷ rest} o (own ++ x) k (free_sym t s f, e) (more own x h g w (Perm.refl (own ++ x)))
    (Perm.trans (turn o own x) (Perm.trans (Perm.append_left own q) p))

-- so any state may come first
own_pick : {m : Store} {s : State} {ss rest : List State} {rows : List Vector} → Pick s ss rest → Owns m ss rows → Owns m (s ∷ rest) rows
own_pick here w = w
own_pick (there {t = t} k) (more own others h f w p) = let e = each_pick (Free t) k f in swap own others h e.0 e.1 (own_pick k w) p

-- ---- what a step leaves of the others

own_kept : {m m' : Store} {ss : List State} {rows : List Vector} → Each (Kept m m') ss → Owns m ss rows → Owns m' ss rows
own_kept e none = none
own_kept {m} {m'} e (more {s = s} own others h f w p) =
    more own others (holding_kept (m s.lists) (m' s.lists) s.header own e.0 h) f (own_kept e.1 w) p

-- the state h took in the rows `own`, in the region of n places from `at` on of the pair p; only that region changed
module _ {m m' : Store} {p at n : ℕ} {h : Header} {own : List Vector} (only : Only p m m') (l : Lies at n (m p) (m' p) h own) where
  kept : (s : State) → Clear p at n s → Kept m m' s
  kept s c = elim (ℕ_discrete s.lists p) [ yes e ↦ same e | no u ↦ other u ]
    where
      same : s.lists ≡ p → Kept m m' s
      same e t = rw e (l.others s.header.start s.header.length (c e))

      other : (s.lists ≡ p → ⊥) → Kept m m' s
      other u t = rw (only s.lists u) (refl, refl)

  all_kept : (ss : List State) → Each (Clear p at n) ss → Each (Kept m m') ss
  all_kept [] c = tt
  all_kept (s ∷ ss) c = (kept s c.0, all_kept ss c.1)

  lands : {rest : List State} {others rows : List Vector} → Each (Clear p at n) rest → Owns m rest others → Perm (own ++ others) rows
      → Owns m' (state p h ∷ rest) rows
  lands {rest} {others} c w q = more {ss = rest} own others l.holding (rw (l.begins, l.long) c) (own_kept (all_kept rest c) w) q

-- ---- the steps, each with its state in front

own_fed : {m m' : Store} {s : State} {rest : List State} {rows : List Vector} → Owns m (s ∷ rest) rows → (v : Vector) (t : Told) (k : Header)
    → Only s.lists m m' → Rows s.header (m s.lists) v t k (m' s.lists) → Owns m' (state s.lists k ∷ rest) (taken_in t v rows)
own_fed {m} {m'} {s} {rows = rows} (more own others h f w p) v t k only acts =
    lands only (row_lies (m s.lists) s.header own h v t k (m' s.lists) acts) f w (go t)
  where
    go : (t : Told) → Perm (taken_in t v own ++ others) (taken_in t v rows)
    go (Ok turns) = Perm.cons v p
    go (Err e) = p

own_met : {m m' : Store} {a b : State} {others rest : List State} {rows : List Vector} → Owns m (a ∷ others) rows → Pick b others rest → (t : Told) (g : Header)
    → Only a.lists m m' → Combines a.header (m a.lists) b.header (m b.lists) t g (m' a.lists)
    → Owns m' (state a.lists g ∷ remain t b rest) rows
own_met {m} {m'} {a} {b} {rest = rest} {rows = rows} (more own x h f w p) l t g only acts = two (own_pick l w)
  where
    free : Each (Free a) (b ∷ rest)
    free = each_pick (Free a) l f

    two : Owns m (b ∷ rest) x → Owns m' (state a.lists g ∷ remain t b rest) rows
    two (more o y k e w q) = go t (combine_lies (m a.lists) a.header own h (m b.lists) b.header o k t g (m' a.lists) acts)
      where
        go : (t : Told) → Lies a.header.start a.header.length (m a.lists) (m' a.lists) g (took t o own)
            → Owns m' (state a.lists g ∷ remain t b rest) rows
        go (Ok turns) r =
            lands only r free.1 w (rw (append_assoc o own y) (Perm.trans (turn o own y) (Perm.trans (Perm.append_left own q) p)))
        go (Err n) r = lands only r free (more o y k e w q) p

own_carried : {m m' : Store} {s : State} {rest : List State} {rows : List Vector} → Owns m (s ∷ rest) rows → (n p at long : ℕ)
    → (t : Told) (g : Header) → IfDone t (Each (Clear p at long) rest) → Only p m m' → Moves s.header (m s.lists) n (m p) at long t g (m' p)
    → Owns m' (state (lies_in t s.lists p) g ∷ rest) rows
own_carried {m} {m'} {s} {rest} {rows} (more own others h f w q) n p at long t g c only acts =
    go t c (move_lies (m s.lists) s.header own h n (m p) at long t g (m' p) acts)
  where
    go : (t : Told) → IfDone t (Each (Clear p at long) rest) → Went (m s.lists) s.header own h at long (m p) t g (m' p)
        → Owns m' (state (lies_in t s.lists p) g ∷ rest) rows
    go (Ok turns) c l = lands only l c w q
    go (Err k) c l =
        lands {at = s.header.start} {n = s.header.length} {own = own} (λ u e. same u)
        (rw (l.0, same s.lists) (lies_same (m s.lists) s.header own h)) f w q
      where
        same : (u : ℕ) → m' u ≡ m u
        same u = elim (ℕ_discrete u p) [ yes e ↦ rw e l.1 | no d ↦ only u d ]

-- ---- runs

fresh_bare : (p : Pair) (at n : ℕ) → Holding p (fresh at n) []
fresh_bare p at n = bare refl (record { dims = refl; len = refl; capacity = refl; count = refl })

pub owns : {m : Store} {ss : List State} {rows : List Vector} → Run m ss rows → Owns m ss rows
owns (start m) = none
owns (elsewhere r m' k) = own_kept k (owns r)
owns (begin {m = m} {rows = rows} r p at n c) = more [] rows (fresh_bare (m p) at n) c (owns r) (Perm.refl rows)
owns (feed r s rest k v t h m' o acts) = own_fed (own_pick k (owns r)) v t h o acts
owns (meet r a others k b rest l u t h m' o acts) = own_met (own_pick k (owns r)) l t h o acts
owns (carry r s rest k n p at long t h c m' o acts) = own_carried (own_pick k (owns r)) n p at long t h c o acts
