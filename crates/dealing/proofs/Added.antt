-- A vector that is the sum of rows: where they are whole numbers that are small enough, it holds their totals. Assumes nothing.
use Prim.Native.Nat.{ℕ, ◌<◌}
use native.Mathlib.Omega.{arith}
use mathlib.Core.Bool.{Bool, true, ◌&&◌}
use mathlib.Core.List.{List, [], ◌∷◌, ◌++◌}
use mathlib.Core.Path.{◌≡◌, refl, sym, ap, ap₂, ◌∙◌}
use lib.Dec.{T, eqb}
use lib.IntN.{+ℤ_idr, +ℤ_comm}
use lib.Ieee.{binary32, fits}
use lib.Ieee.Fits.{and_i, and_l, and_r}
use borrow.Author.Tests.{eq-eqb}
use Rattle.whole.specs.Sums.{all}
use Rattle.whole.proofs.Folds.{size_sum, all_append}
use Rattle.refusal.specs.Answers.{Valid}
use Rattle.sparse.specs.Vectors.{Vector, vector, at}
use Rattle.sparse.specs.Calls.{checked_of}
use Rattle.sparse.specs.Numbers.{is_whole, number_at}
use Rattle.sparse.specs.Sound.{Sound}
use Rattle.sparse.proofs.Checks.{sound}
use Rattle.sparse.proofs.Entries.{entries_same}
use Rattle.sparse.proofs.Slices.{rebuilt}
use Rattle.steps.specs.Places.{added}
use Rattle.merges.specs.Algebra.{joins}
use Rattle.merges.specs.declared.Op.TheVariants.{Add}
use Rattle.merges.proofs.Meaning.{joins_at, joins_valid}
use Rattle.headers.specs.Headers.{passes}
use Rattle.dealing.specs.Totals.{numbers_at, total_at, entry, total, totals}
use Rattle.dealing.specs.Demand.{Exact}
use Rattle.dealing.proofs.Numbers.{added_entry, row_entry, total_append, weight_both}

-- ---- tests of two lists

both : (t : Vector → Bool) (o o' : List Vector) → T (all t (o ++ o')) → T (all t o) × T (all t o')
both t o o' h = let r : T (all t o && all t o') = rw (all_append t o o') at h in (and_l (all t o) (all t o') r, and_r (all t o) (all t o') r)

joint : (t : Vector → Bool) (o o' : List Vector) → T (all t o) → T (all t o') → T (all t (o ++ o'))
joint t o o' h k = rw (all_append t o o') (and_i (all t o) (all t o') h k)

-- rows whose totals are exact are so in each part
exact_parts : (o o' : List Vector) → Exact (o ++ o') → Exact o × Exact o'
exact_parts o o' w =
    let f = both (λ v. all (fits binary32) v.values) o o' w.floats in
    let i = both is_whole o o' w.whole in (
      record { floats = f.0; whole = i.0; small = λ k. omega (arith, weight_both o o' k, w.small k) },
      record { floats = f.1; whole = i.1; small = λ k. omega (arith, weight_both o o' k, w.small k) },
    )

-- ---- sums of rows

pub record SumOf (v : Vector) (o : List Vector) : Type 0 where
  pub sound : Sound v
  pub valid : T (all (λ w. passes (checked_of w)) o)
  pub dims : T (all (λ w. eqb w.dims v.dims) o)
  pub exact : Exact o → (k : ℕ) → k < v.dims → at v k ≡ entry total (total_at o k)

-- a row is the sum of itself
pub sum_one : (v : Vector) → checked_of v ≡ Valid → SumOf v (v ∷ [])
sum_one v e = record {
  sound = sound v e;
  valid = rw e tt;
  dims = rw (eq-eqb v.dims v.dims refl) tt;
  exact = λ w k h.
      let z = number_at (at v k) in
      row_entry v (sound v e) (and_l (all (fits binary32) v.values) true w.floats) (and_l (is_whole v) true w.whole) k
      (omega (arith, w.small k))
      ∙ ap (entry total) (sym (+ℤ_idr z));
}

-- two sums of one dims are added
pub sum_both : (v w : Vector) (o o' : List Vector) → SumOf v o → SumOf w o' → v.dims ≡ w.dims → SumOf (joins Add v w) (o' ++ o)
sum_both v w o o' s s' e = record {
  sound = sound (joins Add v w) (joins_valid Add v w s.sound s'.sound);
  valid = joint (λ u. passes (checked_of u)) o' o s'.valid s.valid;
  dims = joint (λ u. eqb u.dims v.dims) o' o (rw e s'.dims) s.dims;
  exact = λ x k h.
      let p = exact_parts o' o x in
      let a = s.exact p.1 k h in
      let b = s'.exact p.0 k (rw e at h) in
      joins_at Add v w k h ∙ ap₂ added a b
      ∙ added_entry (total_at o k) (total_at o' k) (omega (arith, weight_both o' o k, x.small k, size_sum (numbers_at o k), size_sum (numbers_at o' k)))
      ∙ ap (entry total) (+ℤ_comm (total_at o k) (total_at o' k) ∙ sym (total_append o' o k));
}

-- so the vector is that of the totals
pub sum_totals : (v : Vector) (o : List Vector) → SumOf v o → Exact o → v ≡ totals v.dims o
sum_totals v o s w =
    let e = entries_same (at v) (λ k. entry total (total_at o k)) v.dims (s.exact w) in
    rebuilt v s.sound ∙ ap₂ (vector v.dims) e.0 e.1
