-- What copies of a state's entries are handed, and what they promise to the merge in place. A user's promises do not cite these.
use Rattle.std.specs.Prelude.{ℕ, zero, suc, ◌+◌, ◌-◌, ◌≤◌, ◌<◌, List, ◌≡◌, length, get_or, set, take, drop, Float}
use Rattle.std.specs.Float.{nan}
use Rattle.sparse.specs.Sound.{Rising}

-- a state's entries stand from `at` up to cap and rise, and what is written from n on does not reach what is read next
pub record Clear (si : List ℕ) (sv : List Float) (at cap n : ℕ) : Type 0 where
  pub order : at ≤ cap
  pub long : cap ≤ length si
  pub long' : cap ≤ length sv
  pub clear : n ≤ at
  pub rising : Rising (take (cap - at) (drop at si))

-- the first r of a state's indexes are below the row's next one
abbrev pub Before : List ℕ → List ℕ → ℕ → ℕ → Type 0
Before is ib q r = (r ≤ length is) × ((j : ℕ) → j < r → q < length ib → get_or is j 0 < get_or ib q 0)

-- a list whose i entries from `at` on are copied to those from n on, one after the other
unfoldable pub copied {ℓ} : {A : Type ℓ} → A → List A → ℕ → ℕ → ℕ → List A
copied d l at n zero = l
copied d l at n (suc i) = set (copied d l at n i) (n + i) (get_or (copied d l at n i) (at + i) d)

-- the k entries from `at` on are below the row's next one, and were copied
pub record Copied (si : List ℕ) (sv : List Float) (at cap n : ℕ) (ib : List ℕ) (q k : ℕ) (si' : List ℕ) (sv' : List Float) : Type 0 where
  pub within : at + k ≤ cap
  pub low : (j : ℕ) → j < k → q < length ib → get_or si (at + j) 0 < get_or ib q 0
  pub indexes : si' ≡ copied 0 si at n k
  pub values : sv' ≡ copied nan sv at n k
