-- The three turns of a walk: to a place that only the left vector has, only the right one, or both. Assumes nothing.
use Rattle.std.proofs.Common.{ℕ, ◌+◌, ◌<◌, arith, List, inl, inr, ◌≡◌, refl, length, get_or, Float}
use lib.Ieee.{nan}
use Rattle.sparse.specs.declared.Cell.TheVariants.{Empty, Full}
use Rattle.walks.specs.Walk.{turn, Turned}

module _ {is : List ℕ} {vs : List Float} {p : ℕ} {js : List ℕ} {ws : List Float} {q : ℕ} where
  pub to_left : p < length is → (q < length js → get_or is p 0 < get_or js q 0)
      → Turned is vs p js ws q (turn (get_or is p 0) (Full (get_or vs p nan)) Empty (p + 1) q)
  to_left h above = record { left = inl (h, refl, refl, refl); right = inr (above, refl, refl); some = omega arith }

  pub to_right : q < length js → (p < length is → get_or js q 0 < get_or is p 0)
      → Turned is vs p js ws q (turn (get_or js q 0) Empty (Full (get_or ws q nan)) p (q + 1))
  to_right h above = record { left = inr (above, refl, refl); right = inl (h, refl, refl, refl); some = omega arith }

  pub to_both : p < length is → q < length js → get_or js q 0 ≡ get_or is p 0
      → Turned is vs p js ws q (turn (get_or is p 0) (Full (get_or vs p nan)) (Full (get_or ws q nan)) (p + 1) (q + 1))
  to_both h l same = record { left = inl (h, refl, refl, refl); right = inl (l, same, refl, refl); some = omega arith }
