-- What a slice means: it is a valid vector that holds what stands at its places. Assumes nothing.
use Rattle.std.proofs.Common.{◌≡◌, ℕ, ◌+◌, ◌-◌, ◌≤◌, ◌<◌, arith}
use Rattle.refusal.specs.Answers.{Valid}
use Rattle.sparse.specs.Calls.{checked_of}
use Rattle.sparse.specs.Vectors.{Vector, at}
use Rattle.sparse.specs.Sound.{Sound}
use Rattle.sparse.proofs.Meaning.{at_below, at_nonzero, vector_valid}
use Rattle.sparse_slices.specs.Calls.{slice}

module _ (v : Vector) (start end : ℕ) where
  pub slice_at : (k : ℕ) → k < end - start → at (slice v start end) k ≡ at v (start + k)
  slice_at k h = at_below (λ j. at v (start + j)) (end - start) k h

  pub slice_valid : Sound v → start < end → end ≤ v.dims → checked_of (slice v start end) ≡ Valid
  slice_valid s h l =
      vector_valid (end - start) (λ k. at v (start + k)) (omega arith) (omega (arith, s.high)) (λ k x m e. at_nonzero v s (start + k) x e)
