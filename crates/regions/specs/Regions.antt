-- Document 01, "Aggregate states": "a region that may start anywhere in the lent pair of lists (u32 indexes, f32 values)".
use Rattle.std.specs.Prelude.{ℕ, ◌+◌, ◌≤◌, ◌<◌, Bool, ◌&&◌, List, ◌≡◌, leb, length, take, drop, Float}
use Rattle.regions.specs.declared.Lists.{Lists}

-- a pair of lent lists
pub record Pair : Type 0 where
  pub indexes : List ℕ
  pub values : List Float

abbrev pub pair : List ℕ → List Float → Pair
pair is vs = record { indexes = is; values = vs }

-- such lists as they are lent to be read
abbrev pub both : Lists → Pair
both l = pair l.indexes.now l.values.now

-- the n entries from `start` on
abbrev pub part {ℓ} : {A : Type ℓ} → ℕ → ℕ → List A → List A
part start n l = take n (drop start l)

-- n places from `start` on lie inside both of two lists of so many indexes and values
abbrev pub within : ℕ → ℕ → ℕ → ℕ → Bool
within start n indexes values = leb (start + n) indexes && leb (start + n) values

abbrev pub inside : ℕ → ℕ → Pair → Bool
inside start n p = within start n (length p.indexes) (length p.values)

-- two regions do not overlap: no place lies in both
abbrev pub Apart : ℕ → ℕ → ℕ → ℕ → Type 0
Apart start n start' n' = (i : ℕ) → start ≤ i → i < start + n → start' ≤ i → i < start' + n' → ⊥

-- "Outside the region, and inside it from the capacity on, nothing changes." The list `new` is `old`, but that xs stands from `start` on, and
-- that the first `room` places from there on may have changed. So what is left open is the places after xs and within the room; where xs fills the room nothing is.
pub record Stands {ℓ} {A : Type ℓ} (start room : ℕ) (xs old new : List A) : Type ℓ where
  pub long : length new ≡ length old
  pub before : take start new ≡ take start old
  pub here : part start (length xs) new ≡ xs
  pub after : drop (start + room) new ≡ drop (start + room) old
