-- Document 01, "What makes a vector valid": dims in a range that starts at 1.
use Rattle.std.specs.Prelude.{ℕ, Bool, ◌||◌, ltb, eqb}

-- "dims out of range": "dims in 1..=" top does not hold
abbrev pub outside : ℕ → ℕ → Bool
outside top d = eqb d 0 || ltb top d
