-- The sentence that the theorem stands for: what it takes, and what it tells. docs/PROMISES.md has it whole.
use Rattle.std.specs.Prelude.{ℕ, ◌≤◌, List, ◌≡◌, T, eqb, length, Float, Result}
use Rattle.std.specs.Float.{binary32}
use Rattle.std.specs.Float.Ieee.{fits}
use Rattle.whole.specs.Sums.{all}
use Rattle.refusal.specs.declared.Refusal.{Refusal}
use Rattle.refusal.specs.declared.Written.{Written}
use Rattle.sparse.specs.Vectors.{Vector, size}
use Rattle.sparse.specs.Calls.{checked_of, room_of, Leaves}
use Rattle.sparse.specs.Numbers.{is_whole}
use Rattle.headers.specs.Headers.{most_rows, passes}
use Rattle.aggregate_svecf32.specs.Calls.{Sums, Averages}
use Rattle.dealing.specs.Runs.{Store, State}
use Rattle.dealing.specs.Totals.{weight_at, totals, averages}

-- ---- what it takes

-- Rows that can be dealt at all: there is a finished run for any such rows (`can_finish`, proofs/Finishing), and a finished run has no others
-- (`finished_dealable`, proofs/Theorem)
pub record Dealable (d : ℕ) (rows : List Vector) : Type 0 where
  -- "valid rows"
  pub valid : T (all (λ v. passes (checked_of v)) rows)
  -- "of one dims"
  pub dims : T (all (λ v. eqb v.dims d) rows)
  -- request #109: "any row count up to the u64 end"
  pub few : length rows ≤ most_rows

-- Rows whose totals are exact
pub record Exact (rows : List Vector) : Type 0 where
  -- values are f32: each is one that binary32 holds, as every value of a list of f32 is
  pub floats : T (all (λ v. all (fits binary32) v.values) rows)
  -- "all values whole numbers"
  pub whole : T (all is_whole rows)
  -- "magnitudes at each index adding up to at most 16,777,216"
  pub small : (k : ℕ) → weight_at rows k ≤ 16777216

-- "Take one or more valid rows of one dims, .. all values whole numbers, magnitudes at each index adding up to .."
pub record Takes (d : ℕ) (rows : List Vector) : Type 0 where
  -- "one or more"
  pub some : 1 ≤ length rows
  pub dealable : Dealable d rows
  pub exact : Exact rows

-- ---- what it tells

-- a call writes v to the outputs oi and ov, if they have room for its entries
abbrev pub Gives : Vector → List ℕ → List Float → Result Written Refusal → List ℕ → List Float → Type 0
Gives v oi ov = Leaves (room_of (size v) (length oi) (length ov)) v oi ov

-- of a state that lies in the lists m
pub record Tells (m : Store) (s : State) (d : ℕ) (rows : List Vector) : Type 0 where
  -- "Its count is the number of rows"
  pub count : s.header.count ≡ length rows
  -- "its sum holds exactly the nonzero whole-number totals in rising index order": so whatever `sum` answers and leaves
  pub sum : (oi : List ℕ) (ov : List Float) (r : Result Written Refusal) (oi' : List ℕ) (ov' : List Float)
      → Sums s.header (m s.lists) oi ov r oi' ov' → Gives (totals d rows) oi ov r oi' ov'
  -- "its average is each total divided once by the count": so whatever `average` answers and leaves
  pub average : (oi : List ℕ) (ov : List Float) (r : Result Written Refusal) (oi' : List ℕ) (ov' : List Float)
      → Averages s.header (m s.lists) oi ov r oi' ov' → Gives (averages d rows) oi ov r oi' ov'

-- "Dealing, order and tree change no bit": the counts of two states are equal, and so is all that `sum` and `average` answer and write
pub record Alike (m : Store) (s : State) (m' : Store) (s' : State) : Type 0 where
  pub count : s.header.count ≡ s'.header.count
  pub sum : (oi : List ℕ) (ov : List Float) (r r' : Result Written Refusal) (xi yi : List ℕ) (xv yv : List Float)
      → Sums s.header (m s.lists) oi ov r xi xv → Sums s'.header (m' s'.lists) oi ov r' yi yv
      → (r ≡ r') × (xi ≡ yi) × (xv ≡ yv)
  pub average : (oi : List ℕ) (ov : List Float) (r r' : Result Written Refusal) (xi yi : List ℕ) (xv yv : List Float)
      → Averages s.header (m s.lists) oi ov r xi xv → Averages s'.header (m' s'.lists) oi ov r' yi yv
      → (r ≡ r') × (xi ≡ yi) × (xv ≡ yv)
