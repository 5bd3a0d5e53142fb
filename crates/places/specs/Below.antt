-- What is said of the places below n, one place after the other in rising order.
use Rattle.std.specs.Prelude.{ℕ, zero, suc, ◌+◌, Bool, true, false, ◌||◌, List, [], ◌∷◌, ◌++◌}

abbrev pub one : Bool → ℕ
one true = 1
one false = 0

-- how many places below n pass the test
unfoldable pub count_below : (ℕ → Bool) → ℕ → ℕ
count_below t zero = 0
count_below t (suc n) = count_below t n + one (t n)

-- some place below n passes the test
unfoldable pub any_below : (ℕ → Bool) → ℕ → Bool
any_below t zero = false
any_below t (suc n) = any_below t n || t n

-- what f gives at each place below n
unfoldable pub list_below {ℓ} : {A : Type ℓ} → (ℕ → A) → ℕ → List A
list_below f zero = []
list_below f (suc n) = list_below f n ++ (f n ∷ [])
