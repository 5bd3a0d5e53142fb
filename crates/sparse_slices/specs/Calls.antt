-- What a slice promises: its tests in their order, the vector, and what is left in the lent lists.
use Rattle.std.specs.Prelude.{ℕ, ◌+◌, ◌-◌, List, length, Float, Result}
use Rattle.std.specs.declared.ops.Bound.{Bound}
use Rattle.refusal.specs.Answers.{refuse, next}
use Rattle.refusal.specs.Bounds.{start_of, end_of, bad_bounds}
use Rattle.refusal.specs.declared.Refusal.{Refusal}
use Rattle.refusal.specs.declared.Refusal.TheVariants.{Bounds}
use Rattle.refusal.specs.declared.Written.{Written}
use Rattle.sparse.specs.Vectors.{Vector, size, at, vector_of}
use Rattle.sparse.specs.Calls.{checked_of, room_of, Leaves}

-- "The slice has dims end - start, indexes less start, the same values"
abbrev pub slice : Vector → ℕ → ℕ → Vector
slice v start end = vector_of (end - start) (λ k. at v (start + k))

-- "room is the number of entries kept"
abbrev pub Cuts : Vector → Bound ℕ → Bound ℕ → List ℕ → List Float → Result Written Refusal → List ℕ → List Float → Type 0
Cuts v from to oi ov =
    let part = slice v (start_of from) (end_of v.dims to) in
    Leaves
    (next (checked_of v) (refuse (bad_bounds from to v.dims) Bounds (room_of (size part) (length oi) (length ov))))
    part oi ov
