-- Many turns of a merge in place: what every turn keeps, and a loop that takes one after the other. Assumes nothing.
use Prim.Native.Nat.{ℕ, suc, ◌+◌, ◌≤◌, ◌<◌}
use native.Mathlib.Numerals.{add-one}
use native.Mathlib.Omega.{arith}
use mathlib.Core.List.{List}
use mathlib.Core.Path.{◌≡◌, refl, ◌∙◌}
use lib.ListN.{length}
use lib.Ieee.{Float}
use Rattle.strides.specs.Strides.{Meeting, Stepped, Chain, none, more, Ample}
use Rattle.copies.specs.declared.Step.{Step}
use Rattle.strides.proofs.Steps.{next_most, next_passed, same_lengths}

-- what every turn keeps holds after many
module _ {cap : ℕ} {ib : List ℕ} {vb : List Float} (P : ℕ → Step → List ℕ → List Float → Type 0)
    (each : (k : ℕ) (t : Step) (si : List ℕ) (sv : List Float) (u : Step) (si' : List ℕ) (sv' : List Float) → P k t si sv
    → Stepped si sv t.at cap t.n ib vb t.q u si' sv' → P (suc k) u si' sv') where
  pub chain_keeps : {k : ℕ} {s : Step} {si : List ℕ} {sv : List Float} {t : Step} {si' : List ℕ} {sv' : List Float} → P 0 s si sv
      → Chain cap ib vb k s si sv t si' sv' → P k t si' sv'
  chain_keeps p none = p
  chain_keeps p (more {k} {s} {si} {sv} {t} {si'} {sv'} {u} {si''} {sv''} c m) = each k t si' sv' u si'' sv'' (chain_keeps p c) m

-- no turn goes back
pub chain_passed : {cap : ℕ} {ib : List ℕ} {vb : List Float} {k : ℕ} {s : Step} {si : List ℕ} {sv : List Float} {t : Step} {si' : List ℕ} {sv' : List Float}
    → Chain cap ib vb k s si sv t si' sv' → s.at + s.q ≤ t.at + t.q
chain_passed {s = s} c =
    chain_keeps (λ k t x w. s.at + s.q ≤ t.at + t.q) (λ k t x w u x' w' p m. omega (arith, p, next_passed m)) (omega arith) c

-- ---- a loop that takes up to k turns: `taken` of them lead from where it began to where it is
pub record Runs (si : List ℕ) (sv : List Float) (s : Step) (cap : ℕ) (ib : List ℕ) (vb : List Float) (si' : List ℕ) (sv' : List Float)
    (t : Step) (taken : ℕ) : Type 0 where
  pub chain : Chain cap ib vb taken s si sv t si' sv'
  pub long : length si' ≡ length si
  pub long' : length sv' ≡ length sv
  pub left : t.at ≤ s.at + taken
  pub right : t.q ≤ s.q + taken
  pub wrote : t.n ≤ s.n + taken

module _ {si : List ℕ} {sv : List Float} {s : Step} {cap : ℕ} {ib : List ℕ} {vb : List Float} where
  pub runs_start : Runs si sv s cap ib vb si sv s 0
  runs_start = record { chain = none; long = refl; long' = refl; left = omega arith; right = omega arith; wrote = omega arith }

  module _ {si' : List ℕ} {sv' : List Float} {t : Step} {taken : ℕ} (g : Runs si sv s cap ib vb si' sv' t taken) where
    -- both sides have an entry left, and there is room
    pub runs_meeting : {k : ℕ} → Ample si sv s.at cap s.n ib vb s.q k → taken < k → Meeting si' sv' t.at cap t.n ib vb t.q
    runs_meeting a h = record {
      left = omega (arith, g.left, a.left);
      right = omega (arith, g.right, a.right);
      even = a.even;
      long = omega (arith, g.long, a.long);
      long' = omega (arith, g.long', a.long');
      room = omega (arith, g.wrote, g.long, a.clear, a.left, a.long);
      room' = omega (arith, g.wrote, g.long', a.clear, a.left, a.long');
    }

    pub runs_more : {r : Step} {si'' : List ℕ} {sv'' : List Float} → Stepped si' sv' t.at cap t.n ib vb t.q r si'' sv''
        → Runs si sv s cap ib vb si'' sv'' r (taken + 1)
    runs_more m =
        let most = next_most m in
        let same = same_lengths m in
        record {
          chain = rw add-one (more g.chain m);
          long = same.0 ∙ g.long;
          long' = same.1 ∙ g.long';
          left = omega (arith, most.0, g.left);
          right = omega (arith, most.1, g.right);
          wrote = omega (arith, most.2, g.wrote);
        }
