-- A sum over the places of two vectors, taken along the walk over their entries. Assumes nothing.
use Prim.Native.Nat.{ℕ, ◌+◌, ◌≤◌}
use mathlib.Core.Path.{◌≡◌, refl, sym, ap, ap₂, ◌∙◌}
use Rattle.sparse.specs.Cells.{fold_below}
use Rattle.sparse.specs.Vectors.{Vector, size, at}
use Rattle.sparse.specs.declared.Cell.{Cell}
use Rattle.sparse.specs.declared.Cell.TheVariants.{Empty}
use Rattle.walks.specs.Walk.{Turned}
use Rattle.walks.specs.declared.Turn.{Turn}
use Rattle.walks.proofs.Walks.{Quiet, Going, going_start, going_more, going_end, left_cell, right_cell, place_below}
use Rattle.sums.specs.Loops.{Ready}

-- the sum so far is that of the places below the one where the walk stands
pub record Summing {A : Type 0} (step : A → Cell → Cell → A) (start : A) (a b : Vector) (p q : ℕ) (acc : A) : Type 0 where
  pub going : Going a b a.dims (λ k. acc ≡ fold_below step start (at a) (at b) k) p q

pub summing_start : {A : Type 0} {step : A → Cell → Cell → A} {start : A} {a b : Vector} → Summing step start a b 0 0 start
unfolding fold_below
summing_start = record { going = going_start refl }

module _ {A : Type 0} {step : A → Cell → Cell → A} (still : (acc : A) → step acc Empty Empty ≡ acc) {start : A}
    {a b : Vector} (r : Ready a b) {p q : ℕ} {acc : A} (m : Summing step start a b p q acc) where
  quiet : Quiet a b (λ k. acc ≡ fold_below step start (at a) (at b) k)
  unfolding fold_below
  quiet i ea eb e = e ∙ rw (ea, eb) (sym (still (fold_below step start (at a) (at b) i)))

  pub summing_more : {t : Turn} → Turned a.indexes a.values p b.indexes b.values q t
      → {sum : A} → sum ≡ step acc t.x t.y → Summing step start a b t.p t.q sum
  unfolding fold_below
  summing_more {t} u e =
      let g = m.going in
      record {
        going = going_more r.left r.right g u quiet (place_below r.left r.right g u r.even)
            (λ h.
            e
            ∙ ap₂ (step acc) (sym (left_cell r.left r.right g u)) (sym (right_cell r.left r.right g u))
            ∙ ap (λ (x : A). step x (at a t.place) (at b t.place)) h);
      }

  pub summing_end : size a + size b ≤ p + q → acc ≡ fold_below step start (at a) (at b) a.dims
  summing_end h = going_end r.left r.right m.going quiet h
