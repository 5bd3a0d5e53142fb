-- The first place at which a test holds.
use Rattle.std.specs.Prelude.{ℕ, zero, suc, Bool, cond, Option, Some, None}
use Rattle.places.specs.Below.{any_below}

-- the first of the m places from j on at which the test t holds, and j + m where there is none
unfoldable pub first_from : (ℕ → Bool) → ℕ → ℕ → ℕ
first_from t zero j = j
first_from t (suc m) j = cond (t j) j (first_from t m (suc j))

-- the first of the places below n at which t holds, if there is one
abbrev pub first_where : (ℕ → Bool) → ℕ → Option ℕ
first_where t n = cond (any_below t n) (Some (first_from t n 0)) None
