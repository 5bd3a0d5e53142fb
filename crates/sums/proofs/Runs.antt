-- Many turns of a sum, one after the other. Assumes nothing.
use Rattle.std.proofs.Common.{◌≡◌, ℕ, ◌+◌, ◌-◌, ◌≤◌, ◌<◌, List, length, Float, add-one, ⊎_elim, arith}
use mir.Val.{bool_byte}
use lib.Dec.{leb}
use Rattle.sparse.specs.Vectors.{Vector, size, seen}
use Rattle.sparse.specs.declared.Cell.{Cell}
use Rattle.sparse.specs.declared.Cell.TheVariants.{Empty, Full}
use Rattle.sparse.specs.declared.SVectBorrowed.{SVectBorrowed}
use Rattle.sparse.proofs.Checks.{size_most}
use Rattle.walks.specs.Walk.{walk, Taken}
use Rattle.walks.specs.declared.Walk.{Walk}
use Rattle.sums.specs.Loops.{Ready, next_of, Added, Running, Chain, none, more}
use Rattle.sums.proofs.Turns.{left_index, right_index, left_value, right_value, quick_added, met_added}
use Rattle.sums.proofs.Summing.{Summing, summing_more}

-- a turn passes one entry of a side at most
taken_most : (is : List ℕ) (vs : List Float) (p k : ℕ) (x : Cell) (p' : ℕ) → Taken is vs p k x p' → p' ≤ p + 1
taken_most is vs p k x p' t = ⊎_elim (λ e. omega (arith, e.3)) (λ e. omega (arith, e.2)) t

-- ---- the loop that takes them: `taken` turns lead from where it began to where it is
pub record Runs {A : Type 0} (step : A → Cell → Cell → A) (k : ℕ) (acc : A) (w : Walk) (u v : ℕ) (sum : A) (taken : ℕ) : Type 0 where
  pub chain : Chain step acc w taken sum u v
  pub most : taken ≤ k
  pub left : u ≤ w.p + taken
  pub right : v ≤ w.q + taken
  pub passed : w.p + w.q + taken ≤ u + v

module _ {A : Type 0} {step : A → Cell → Cell → A} {k : ℕ} {acc : A} {w : Walk} where
  pub runs_start : Runs step k acc w w.p w.q acc 0
  runs_start = record { chain = none; most = omega arith; left = omega arith; right = omega arith; passed = omega arith }

  module _ (h : Running w k) {u v : ℕ} {sum : A} {taken : ℕ} (g : Runs step k acc w u v sum taken) where
    -- both sides have an entry left
    left_more : taken < k → u < length w.a.indexes.now
    left_more l = omega (arith, h.left, g.left)

    right_more : taken < k → v < length w.b.indexes.now
    right_more l = omega (arith, h.right, g.right)

    -- where the walk stands
    abbrev here : Walk
    here = walk w.a u w.b v

    module _ (l : taken < k) where
      -- one turn more
      pub runs_more : {s : A} {u' v' : ℕ} → Added step sum here s u' v' → Runs step k acc w u' v' s (taken + 1)
      runs_more s =
          let t = s.turn in
          let a = taken_most w.a.indexes.now w.a.values.now u t.place t.x t.p s.turned.left in
          let b = taken_most w.b.indexes.now w.b.values.now v t.place t.y t.q s.turned.right in
          record {
            chain = rw add-one (more g.chain s);
            most = omega arith;
            left = omega (arith, g.left, a, s.left);
            right = omega (arith, g.right, b, s.right);
            passed = omega (arith, g.passed, s.turned.some, s.left, s.right);
          }

      abbrev i : ℕ
      i = left_index here

      abbrev j : ℕ
      j = right_index here

      abbrev x : Float
      x = left_value here

      abbrev y : Float
      y = right_value here

      -- it is one without a branch, or one where both sides meet
      pub runs_quick : {s : A} → s ≡ next_of step sum i j x y → Runs step k acc w (u + bool_byte (leb i j)) (v + bool_byte (leb j i)) s (taken + 1)
      runs_quick e = runs_more (quick_added step sum here (left_more l) (right_more l) e)

      pub runs_met : i ≡ j → {s : A} → s ≡ step sum (Full x) (Full y) → Runs step k acc w (u + 1) (v + 1) s (taken + 1)
      runs_met m e = runs_more (met_added step sum here (left_more l) (right_more l) m e)

-- ---- a sum over two vectors that takes them

-- of a walk over two vectors that passed both passed
pub over : {a b c d : SVectBorrowed} → a ≡ c → b ≡ d → Ready (seen c) (seen d) → Ready (seen a) (seen b)
over e f r = rw (e, f) r

-- it takes few turns, and passes few entries of either side
pub few : {a b : Vector} → Ready a b → (p q : ℕ) {k u v : ℕ} → p + k ≤ size a → u ≤ size a → v ≤ size b
    → (k ≤ 2097150) × (u - p ≤ 1048575) × (v - q ≤ 1048575)
few r p q m l h =
    (omega (arith, size_most r.left, r.left.high), omega (arith, size_most r.left, r.left.high), omega (arith, size_most r.right, r.right.high))

module _ {a b : SVectBorrowed} (r : Ready (seen a) (seen b)) where
  pub summing_running : (p q : ℕ) {k : ℕ} → p + k ≤ size (seen a) → q + k ≤ size (seen b) → Running (walk a p b q) k
  summing_running p q l h =
      record {
        even = r.left.even;
        even' = r.right.even;
        most = omega (arith, size_most r.left, r.left.high);
        most' = omega (arith, size_most r.right, r.right.high);
        left = l;
        right = h;
      }

  module _ {A : Type 0} {step : A → Cell → Cell → A} (still : (acc : A) → step acc Empty Empty ≡ acc) {start : A} where
    pub summing_added : {p q : ℕ} {acc : A} → Summing step start (seen a) (seen b) p q acc → {sum : A} {u v : ℕ}
        → Added step acc (walk a p b q) sum u v → Summing step start (seen a) (seen b) u v sum
    summing_added m s = rw (s.left, s.right) (summing_more still r m s.turned s.sums)

    pub summing_chain : {p q : ℕ} {acc : A} → Summing step start (seen a) (seen b) p q acc → {k : ℕ} {sum : A} {u v : ℕ}
        → Chain step acc (walk a p b q) k sum u v → Summing step start (seen a) (seen b) u v sum
    summing_chain m none = m
    summing_chain m (more c s) = summing_added (summing_chain m c) s
