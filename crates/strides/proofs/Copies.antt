-- Copies of entries that all come before the row's next one are as many turns. Assumes nothing.
use Prim.Native.Nat.{ℕ, zero, suc, ◌+◌, ◌-◌, ◌≤◌, ◌<◌}
use native.Mathlib.Omega.{arith}
use mathlib.Core.List.{List}
use mathlib.Core.Path.{◌≡◌, refl}
use lib.ListN.{length, get_or, set}
use lib.Ieee.{Float, nan}
use Rattle.sparse.specs.declared.Cell.TheVariants.{Empty, Full}
use Rattle.walks.specs.Walk.{turn}
use Rattle.walks.proofs.Turns.{to_left}
use Rattle.regions.specs.Regions.{part}
use Rattle.regions.proofs.Stands.{part_length}
use Rattle.copies.specs.Copies.{Clear, copied, Copied}
use Rattle.copies.proofs.Copies.{copied_length, copied_later}
use Rattle.strides.specs.Strides.{Stepped, step, Chain, none, more}
use Rattle.copies.specs.declared.Step.{Step}
use Rattle.strides.proofs.Steps.{part_first}

-- the same numbers, written in another way
chain_at : {cap : ℕ} {ib : List ℕ} {vb : List Float} {k : ℕ} {s : Step} {si : List ℕ} {sv : List Float} {at at' q n n' : ℕ} {si' : List ℕ}
    {sv' : List Float} → at ≡ at' → n ≡ n' → Chain cap ib vb k s si sv (step at q n) si' sv' → Chain cap ib vb k s si sv (step at' q n') si' sv'
chain_at e f c = rw (← e, ← f) c

module _ {si : List ℕ} {sv : List Float} {at cap n : ℕ} {ib : List ℕ} {q : ℕ} (r : Clear si sv at cap n) {k : ℕ} {si' : List ℕ} {sv' : List Float}
    (c : Copied si sv at cap n ib q k si' sv') (vb : List Float) (some : q ≤ length ib) where
  abbrev is : ℕ → List ℕ
  is i = copied 0 si at n i

  abbrev vs : ℕ → List Float
  vs i = copied nan sv at n i

  next_below : (i : ℕ) → i < k → q < length ib → get_or (is i) (at + i) 0 < get_or ib q 0
  next_below i h l = rw (copied_later 0 si at n i (at + i) (omega (arith, r.clear))) (c.low i h l)

  one : (i : ℕ) → i < k
      → Stepped (is i) (vs i) (at + i) cap (n + i) ib vb q (step (at + i + 1) q (n + i + 1))
      (set (is i) (n + i) (get_or (is i) (at + i) 0))
      (set (vs i) (n + i) (get_or (vs i) (at + i) nan))
  one i h =
      let m = cap - (at + i) in
      let within = c.within in
      let first = part_first (at + i) m (is i) 0 (omega arith) in
      let value = part_first (at + i) m (vs i) nan (omega arith) in
      let long = part_length (at + i) m (is i) (omega (arith, r.long, copied_length 0 si at n i)) in
      record {
        turn = turn (get_or (part (at + i) m (is i)) 0 0) (Full (get_or (part (at + i) m (vs i)) 0 nan)) Empty (0 + 1) q;
        some = omega arith;
        turned = to_left (omega (arith, long)) (λ l. omega (arith, first, next_below i h l));
        put = record { count = refl; indexes = rw first; values = rw value };
        left = refl;
        right = refl;
      }

  block : (i : ℕ) → i ≤ k → Chain cap ib vb i (step at q n) si sv (step (at + i) q (n + i)) (is i) (vs i)
  unfolding copied
  block zero h = chain_at (omega arith) (omega arith) none
  block (suc i) h =
      let t : Chain cap ib vb (suc i) (step at q n) si sv (step (at + i + 1) q (n + i + 1)) (is (suc i)) (vs (suc i)) =
      more (block i (omega arith)) (one i (omega arith))
      in
      chain_at (omega arith) (omega arith) t

  pub copied_turns : Chain cap ib vb k (step at q n) si sv (step (at + k) q (n + k)) si' sv'
  copied_turns = rw (c.indexes, c.values) (block k (omega arith))
