-- What the loops over words promise to the calls above them. A user's promises do not cite these.
use Rattle.std.specs.Prelude.{ℕ, ◌*◌, List, length, get_or}
use Rattle.places.specs.Below.{count_below, list_below}
use Rattle.bit_words.specs.Ops.{meets, join}
use Rattle.bit_words.specs.declared.Op.{Op}

-- the ones of all words put together
abbrev pub ones_of : Op → List ℕ → List ℕ → ℕ
ones_of op a b = count_below (meets op a b) (64 * length a)

-- the words put together
abbrev pub joins : Op → List ℕ → List ℕ → List ℕ
joins op a b = list_below (λ i. join op (get_or a i 0) (get_or b i 0)) (length a)
