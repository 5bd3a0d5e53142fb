-- What a search answers, by the first index at which the number stands. Assumes nothing.
use Rattle.std.proofs.Common.{◌≡◌, ℕ, ◌+◌, ◌<◌, ◌≤◌, Bool, true, false, cond, not, eqb, List, [], ◌∷◌, Some, None, length, position, refl, arith}
use Rattle.std.proofs.lemmas.List.Quantifiers.{position-Some}
use Rattle.std.proofs.lemmas.List.Sums.{prefix_len-le-length}
use Rattle.std.specs.List.{position_or_len}
use Rattle.finding.specs.Finding.{index_of, index_after}

-- the first index or the length, in the library's word
pub index_first : (b : ℕ) (s : List ℕ) → position_or_len (λ x. eqb x b) s ≡ index_of b s
unfolding index_of index_after
index_first b [] = refl
index_first b (x ∷ s) = go (eqb x b) (index_first b s)
  where
    go : (c : Bool) → position_or_len (λ x. eqb x b) s ≡ index_of b s
        → cond (not c) (1 + position_or_len (λ x. eqb x b) s) 0 ≡ index_after c (index_of b s)
    go true h = refl
    go false h = omega (arith, h)

pub index_most : (b : ℕ) (s : List ℕ) → index_of b s ≤ length s
index_most b s = omega (arith, index_first b s, prefix_len-le-length (λ x. not (eqb x b)) s)

module _ (b : ℕ) (s : List ℕ) where
  -- the number was found
  pub found : {i : ℕ} → position (λ x. eqb x b) s ≡ Some i → (i ≡ index_of b s) × (i < length s)
  found {i} e =
      let at = position-Some (λ x. eqb x b) s i 0 e in
      (grind (arith, e, index_first b s), at.0)

  -- it was not
  pub missing : position (λ x. eqb x b) s ≡ None → index_of b s ≡ length s
  missing e = grind (arith, e, index_first b s, index_most b s)
