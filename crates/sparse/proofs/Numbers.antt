-- A test that all values of a vector pass holds of what stands at each place. Assumes nothing.
use Rattle.std.proofs.Common.{◌≡◌, ℕ, Bool, true, false, cond, T, eqb, List, [], ◌∷◌, arith}
use lib.Ieee.{Float}
use lib.Ieee.Fits.{and_l, and_r}
use Rattle.whole.specs.Sums.{all}
use Rattle.sparse.specs.Cells.{look}
use Rattle.sparse.specs.Vectors.{Vector, at}
use Rattle.sparse.specs.declared.Cell.{Cell}
use Rattle.sparse.specs.declared.Cell.TheVariants.{Full}

-- a cell that holds nothing that fails the test
abbrev pub Passing : (Float → Bool) → Cell → Type 0
Passing t x = (v : Float) → x ≡ Full v → T (t v)

pub passing_look : (t : Float → Bool) (is : List ℕ) (vs : List Float) → T (all t vs) → (k : ℕ) → Passing t (look is vs k)
unfolding look
passing_look t [] vs h k v e = let z : ◌≡◌ {A = ℕ} 0 1 = cc in absurd (omega arith)
passing_look t (i ∷ is) [] h k v e = let z : ◌≡◌ {A = ℕ} 0 1 = cc in absurd (omega arith)
passing_look t (i ∷ is) (w ∷ vs) h k v e = go (eqb i k) e (and_l (t w) (all t vs) h) (passing_look t is vs (and_r (t w) (all t vs) h) k v)
  where
    go : (b : Bool) → cond b (Full w) (look is vs k) ≡ Full v → T (t w) → (look is vs k ≡ Full v → T (t v)) → T (t v)
    go true q first rest = let r : w ≡ v = cc in rw (← r) first
    go false q first rest = rest q

pub passing_at : (t : Float → Bool) (v : Vector) → T (all t v.values) → (k : ℕ) → Passing t (at v k)
passing_at t v h k = passing_look t v.indexes v.values h k
