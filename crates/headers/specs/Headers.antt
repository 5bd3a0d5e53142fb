-- Document 01, "Aggregate states": when the numbers of a header are consistent, and whether they have room.
use Rattle.std.specs.Prelude.{ℕ, ◌+◌, ◌-◌, Bool, true, false, not, ◌&&◌, ◌||◌, leb, ltb, eqb, Ok, Err}
use Rattle.refusal.specs.Answers.{Checked}
use Rattle.sparse.specs.Vectors.{Vector}
use Rattle.sparse.specs.Calls.{bad_dims, checked_of}
use Rattle.regions.specs.Capacity.{is_capacity}

abbrev pub passes : Checked → Bool
passes (Ok u) = true
passes (Err r) = false

-- the most rows that a state can count: 2 ^ 64 - 1. Document 01 had 16,777,216; request #109: "Counts run to the u64 end"
abbrev pub most_rows : ℕ
most_rows = 18446744073709551615

-- "A header is consistent when: if begun, dims is a sparse dims, capacity is a capacity for some n up to 2,097,150, len <= capacity <= region
-- length, count in 1..=" the most rows, "and the first len entries are a valid sparse vector": here v, of these dims
abbrev pub fair : ℕ → ℕ → ℕ → ℕ → Vector → Bool
fair length len capacity count v =
    not (bad_dims v.dims)
    && is_capacity v.dims capacity
    && leb len capacity
    && leb capacity length
    && ltb 0 count
    && leb count most_rows
    && passes (checked_of v)

-- "if not begun, dims, len, capacity and count are 0"
abbrev pub zeros : ℕ → ℕ → ℕ → ℕ → Bool
zeros d len capacity count = eqb d 0 && eqb len 0 && eqb capacity 0 && eqb count 0

-- request #109: "COUNT is given only if the sum would wrap"
abbrev pub too_many : ℕ → ℕ → Bool
too_many count more = ltb most_rows (count + more)

-- "a move for n where capacity is dims, or capacity - len is at least n"
abbrev pub has_room : ℕ → ℕ → ℕ → ℕ → Bool
has_room d len capacity n = eqb capacity d || leb n (capacity - len)
