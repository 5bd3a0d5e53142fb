-- A sum that is carried in a struct is the sum of what stands in it. Assumes nothing.
use Rattle.std.proofs.Common.{◌≡◌, ℕ, zero, suc, refl, ap, ◌∙◌}
use Rattle.sparse.specs.Cells.{fold_below}
use Rattle.sparse.specs.declared.Cell.{Cell}
use Rattle.sums.specs.Sums.{product_step, difference_step}
use Rattle.sums.specs.Loops.{products_step, differences_step}
use Rattle.sums.specs.declared.Products.{Products}
use Rattle.sums.specs.declared.Differences.{Differences}

inner : {A B : Type 0} (of : B → A) (outer : B → Cell → Cell → B) (step : A → Cell → Cell → A)
    → ((s : B) (x y : Cell) → of (outer s x y) ≡ step (of s) x y) → (start : B) (f g : ℕ → Cell) (n : ℕ)
    → of (fold_below outer start f g n) ≡ fold_below step (of start) f g n
unfolding fold_below
inner of outer step same start f g zero = refl
inner of outer step same start f g (suc n) =
    same (fold_below outer start f g n) (f n) (g n) ∙ ap (λ s. step s (f n) (g n)) (inner of outer step same start f g n)

pub products_inner : (start : Products) (f g : ℕ → Cell) (n : ℕ)
    → (fold_below products_step start f g n).0 ≡ fold_below product_step start.0 f g n
products_inner = inner (λ (s : Products). s.0) products_step product_step (λ s x y. refl)

pub differences_inner : (start : Differences) (f g : ℕ → Cell) (n : ℕ)
    → (fold_below differences_step start f g n).0 ≡ fold_below difference_step start.0 f g n
differences_inner = inner (λ (s : Differences). s.0) differences_step difference_step (λ s x y. refl)
