-- A walk over the entries of two vectors. It stands at a place: the entries below it are passed, and those from it on are not. Whatever
-- holds below that place and is kept at places where both vectors are empty holds after every turn, and at the end. Assumes nothing.
use Rattle.std.proofs.Common.{ℕ, zero, suc, ◌+◌, ◌≤◌, ◌<◌, zero-le, eq-or-lt_of_le, arith, true, ⊎_elim, ◌≡◌, sym, ◌∙◌, get_or}
use mathlib.Core.Bool.{or-true}
use Rattle.places.proofs.Below.{le_or_lt}
use Rattle.sparse.specs.Cells.{full}
use Rattle.sparse.specs.Vectors.{Vector, size, at, in_union}
use Rattle.sparse.specs.Sound.{Split, Sound}
use Rattle.sparse.specs.declared.Cell.{Cell}
use Rattle.sparse.specs.declared.Cell.TheVariants.{Empty}
use Rattle.sparse.proofs.Checks.{left_most, size_most}
use Rattle.sparse.proofs.Look.{look_end, look_gap, look_met, split_start, split_on, split_met}
use Rattle.walks.specs.Walk.{Taken, Standing, Turned}
use Rattle.walks.specs.declared.Turn.{Turn}

-- ---- one vector, whose entry p is the first from the place k on, and a turn to a place m from k on
module _ {v : Vector} (s : Sound v) {p k m : ℕ} {x : Cell} {p' : ℕ} (cut : Split v.indexes p k)
    (t : Taken v.indexes v.values p m x p') where
  -- the next entry is not below m
  pub taken_next : p < size v → m ≤ get_or v.indexes p 0
  taken_next h = ⊎_elim (λ e. omega (arith, e.1)) (λ e. omega (arith, e.0 h)) t

  -- where an entry is taken its index is m
  taken_reach : p < p' → k ≤ m
  taken_reach h = ⊎_elim (λ e. omega (arith, e.1, cut.high p (omega arith) e.0)) (λ e. absurd (omega (arith, e.2))) t

  taken_below : p < p' → m < v.dims
  taken_below h = ⊎_elim (λ e. omega (arith, e.1, s.below p e.0)) (λ e. absurd (omega (arith, e.2))) t

  taken_full : p < p' → full x ≡ true
  taken_full h = ⊎_elim (λ e. rw e.2) (λ e. absurd (omega (arith, e.2))) t

  module _ (le : k ≤ m) where
    taken_gap : (i : ℕ) → k ≤ i → i < m → at v i ≡ Empty
    taken_gap = look_gap v.indexes v.values s.rising p k cut m le taken_next

    taken_cell : at v m ≡ x
    taken_cell =
        ⊎_elim
        (λ e. look_met v.indexes v.values s.rising p k cut s.even e.0 m e.1 ∙ sym e.2)
        (λ e. look_gap v.indexes v.values s.rising p k cut (suc m) (omega arith) e.0 m le (omega arith) ∙ sym e.1)
        t

    taken_split : Split v.indexes p' (suc m)
    taken_split =
        ⊎_elim
        (λ e. rw e.3 (split_met v.indexes v.values s.rising p k cut s.even e.0 m e.1))
        (λ e. rw e.2 (split_on v.indexes v.values s.rising p k cut (suc m) (omega arith) e.0))
        t

-- ---- two vectors

-- the entries below the place k are passed in both, and no others
pub record Walk (a b : Vector) (p q k : ℕ) : Type 0 where
  pub left : Split a.indexes p k
  pub right : Split b.indexes q k

-- P is kept at a place where both vectors are empty
abbrev pub Quiet : Vector → Vector → (ℕ → Type 0) → Type 0
Quiet a b P = (i : ℕ) → at a i ≡ Empty → at b i ≡ Empty → P i → P (suc i)

-- what is kept from each place to the next holds from k up to m
pub kept_up : (P : ℕ → Type 0) (k m : ℕ) → k ≤ m → ((i : ℕ) → k ≤ i → i < m → P i → P (suc i)) → P k → P m
kept_up P k zero le keep h = let e : k ≡ 0 = omega arith in rw (← e) h
kept_up P k (suc m) le keep h =
    ⊎_elim
    (λ e. rw (← e) h)
    (λ l. keep m (omega arith) (omega arith) (kept_up P k m (omega arith) (λ i a b. keep i a (omega arith)) h))
    (eq-or-lt_of_le le)

-- a walk that has come to p and q stands at a place up to `limit`, and P holds there
pub record Going (a b : Vector) (limit : ℕ) (P : ℕ → Type 0) (p q : ℕ) : Type 0 where
  pub front : ℕ
  pub inside : front ≤ limit
  pub walk : Walk a b p q front
  pub holds : P front

pub going_start : {a b : Vector} {limit : ℕ} {P : ℕ → Type 0} → P 0 → Going a b limit P 0 0
going_start {a} {b} h =
    record {
      front = 0;
      inside = zero-le;
      walk = record { left = split_start a.indexes; right = split_start b.indexes };
      holds = h;
    }

-- no more entries are passed than there are
pub passed : {a b : Vector} {limit : ℕ} {P : ℕ → Type 0} {p q : ℕ} → Going a b limit P p q → p + q ≤ size a + size b
passed g = omega (arith, g.walk.left.within, g.walk.right.within)

module _ {a b : Vector} (sa : Sound a) (sb : Sound b) {limit : ℕ} {P : ℕ → Type 0} {p q : ℕ} (g : Going a b limit P p q) where
  pub standing : p + q < size a + size b → Standing a.indexes a.values p b.indexes b.values q
  standing h = record {
    even = sa.even;
    even' = sb.even;
    within = g.walk.left.within;
    within' = g.walk.right.within;
    most = omega (arith, size_most sa, sa.high);
    most' = omega (arith, size_most sb, sb.high);
    more = h;
  }

  -- A merge has never written more entries than it has passed places (`written_most`), and places rise and are below the dims. So what it has
  -- written fits into the dims with all that is left of either side.
  pub within_dims : limit ≡ a.dims → a.dims ≡ b.dims → {n : ℕ} → n ≤ g.front → (n + size a ≤ a.dims + p) × (n + size b ≤ a.dims + q)
  within_dims all same h =
      let in_a : g.front ≤ a.dims = omega (arith, all, g.inside) in
      let in_b : g.front ≤ b.dims = omega (arith, all, same, g.inside) in
      (omega (arith, left_most sa g.walk.left in_a), omega (arith, same, left_most sb g.walk.right in_b))

  module _ {t : Turn} (u : Turned a.indexes a.values p b.indexes b.values q t) where
    -- one of the two has an entry at the place of the turn
    either {ℓ} : {A : Type ℓ} → (p < t.p → A) → (q < t.q → A) → A
    either l r = ⊎_elim (λ h. r (omega (arith, u.some))) l (le_or_lt t.p p)

    reach : g.front ≤ t.place
    reach = either (taken_reach sa g.walk.left u.left) (taken_reach sb g.walk.right u.right)

    pub left_cell : at a t.place ≡ t.x
    left_cell = taken_cell sa g.walk.left u.left reach

    pub right_cell : at b t.place ≡ t.y
    right_cell = taken_cell sb g.walk.right u.right reach

    -- the place of a turn is in the union, and below the dims
    pub in_union_lem : in_union a b t.place ≡ true
    in_union_lem =
        rw (left_cell, right_cell)
        (either (λ h. rw (taken_full sa g.walk.left u.left h)) (λ h. rw (taken_full sb g.walk.right u.right h, or-true)))

    pub place_below : a.dims ≡ b.dims → t.place < a.dims
    place_below e =
        either (taken_below sa g.walk.left u.left) (λ h. omega (arith, e, taken_below sb g.walk.right u.right h))

    -- one turn more
    pub going_more : Quiet a b P → {P' : ℕ → Type 0} → t.place < limit → (P t.place → P' (suc t.place)) → Going a b limit P' t.p t.q
    going_more quiet below turn =
        record {
          front = suc t.place;
          inside = below;
          walk = record { left = taken_split sa g.walk.left u.left reach; right = taken_split sb g.walk.right u.right reach };
          holds = turn
              (kept_up P g.front t.place reach
              (λ i lo hi.
              quiet i (taken_gap sa g.walk.left u.left reach i lo hi) (taken_gap sb g.walk.right u.right reach i lo hi))
              g.holds);
        }

  -- past the ends of both nothing is left
  pub going_end : Quiet a b P → size a + size b ≤ p + q → P limit
  going_end quiet h =
      let l = g.walk.left in
      let r = g.walk.right in
      kept_up P g.front limit g.inside
      (λ i lo hi.
      quiet i
      (look_end a.indexes a.values p g.front i l (omega (arith, l.within, r.within)) lo)
      (look_end b.indexes b.values q g.front i r (omega (arith, l.within, r.within)) lo))
      g.holds
