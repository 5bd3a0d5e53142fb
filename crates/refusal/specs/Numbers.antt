-- Document 01, "Numbers a call can answer": each refusal's number, "given exactly when", and the place it carries.
-- Places of entries and words count from 0. 0 is done: none of the others holds.
use Rattle.std.specs.Prelude.{ℕ}
use Rattle.refusal.specs.declared.Refusal.{Refusal}
use Rattle.refusal.specs.declared.Refusal.TheVariants.{Dims, Length, Order, Index, Zero, Padding, Differ, Bounds, Room, Need, Count, NotBegun, State, NotNeeded}

abbrev pub number_of : Refusal → ℕ
-- dims out of range, or a move's length above dims: place 0
number_of Dims = 1
-- list lengths differ, or the word count is wrong: place 0
number_of Length = 2
-- indexes not strictly increasing: the later entry of the first bad pair
number_of (Order p) = 3
-- last index at or above dims; `get` beyond dims: the last entry; the index asked
number_of (Index p) = 4
-- a zero value: the first such entry
number_of (Zero p) = 5
-- a padding bit is set: the last word
number_of (Padding p) = 6
-- the two dims differ, save in order and equality: place 0
number_of Differ = 7
-- a slice's bounds are bad: place 0
number_of Bounds = 8
-- output or region too short; region not inside its lists: entries needed (for a region, the capacity); the region length
number_of (Room n) = 9
-- the aggregate must grow: the capacity wanted
number_of (Need n) = 10
-- the count would pass 16,777,216, and since request #109 18,446,744,073,709,551,615: place 0
number_of Count = 11
-- finishing or moving a state without rows: place 0
number_of NotBegun = 12
-- a header or its stored entries are inconsistent: place 0
number_of State = 13
-- a move for n where capacity is dims, or capacity - len is at least n: place 0
number_of NotNeeded = 14

-- the place, or the length, that it carries
abbrev pub place_of : Refusal → ℕ
place_of Dims = 0
place_of Length = 0
place_of (Order p) = p
place_of (Index p) = p
place_of (Zero p) = p
place_of (Padding p) = p
place_of Differ = 0
place_of Bounds = 0
place_of (Room n) = n
place_of (Need n) = n
place_of Count = 0
place_of NotBegun = 0
place_of State = 0
place_of NotNeeded = 0
