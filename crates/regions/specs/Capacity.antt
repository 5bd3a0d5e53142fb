-- Document 01, "Aggregate states": the capacity for a number of entries.
use Rattle.std.specs.Prelude.{ℕ, ◌^◌, min, Bool, leb, eqb}
use Rattle.places.specs.Search.{first_from}

-- the exponent of the "smallest power of two at or above n, at least 16": n is below 2 ^ n, so n places to search are enough
abbrev pub exponent : ℕ → ℕ
exponent n = first_from (λ k. leb n (2 ^ k)) n 4

-- "Capacity for n entries: smallest power of two at or above n, at least 16, then at most dims."
unfoldable pub capacity_for : ℕ → ℕ → ℕ
capacity_for d n = min (2 ^ exponent n) d

-- "a capacity for some n up to 2,097,150": it is the capacity for itself (proofs/Capacities shows that this is the same)
abbrev pub is_capacity : ℕ → ℕ → Bool
is_capacity d c = eqb (capacity_for d c) c
