-- Document 01, "Slices and order": what a pair of bounds means in a vector of d places.
use Rattle.std.specs.Prelude.{ℕ, ◌+◌, Bool, false, cond, ◌||◌, leb, ltb, eqb, Option, Some, None}
use Rattle.std.specs.declared.ops.Bound.{Bound}
use Rattle.std.specs.declared.ops.Bound.TheVariants.{Included, Excluded, Unbounded}
use Rattle.std.specs.declared.ops.Range.{Range}

-- "Start: n, n+1, 0."
abbrev pub start_of : Bound ℕ → ℕ
start_of (Included n) = n
start_of (Excluded n) = n + 1
start_of Unbounded = 0

-- "End: n+1, n, dims."
abbrev pub end_of : ℕ → Bound ℕ → ℕ
end_of d (Included n) = n + 1
end_of d (Excluded n) = n
end_of d Unbounded = d

-- "An Excluded start or Included end of 4,294,967,295 is BOUNDS"
abbrev pub top_start : Bound ℕ → Bool
top_start (Included n) = false
top_start (Excluded n) = eqb n 4294967295
top_start Unbounded = false

abbrev pub top_end : Bound ℕ → Bool
top_end (Included n) = eqb n 4294967295
top_end (Excluded n) = false
top_end Unbounded = false

-- "so is start >= end, and so is end > dims."
abbrev pub bad_bounds : Bound ℕ → Bound ℕ → ℕ → Bool
bad_bounds from to d = top_start from || top_end to || leb (end_of d to) (start_of from) || ltb d (end_of d to)

-- the places from the start up to the end; none if the bounds are bad
abbrev pub span_of : Bound ℕ → Bound ℕ → ℕ → Option (Range ℕ)
span_of from to d = cond (bad_bounds from to d) None (Some (record { start = start_of from; end = end_of d to }))
