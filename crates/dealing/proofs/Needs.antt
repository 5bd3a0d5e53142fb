-- NEED can always be made good: a state that answers NEED to a row, or to a second state, can be moved to any region that has the capacity
-- wanted, and takes there what it refused. Assumes nothing.
use Rattle.std.proofs.Common.{◌≡◌, ℕ, ◌+◌, ◌-◌, ◌≤◌, Bool, true, false, not, cond, eqb, ltb, length, Ok, Err, refl, sym, subst, ◌∙◌, ⊎_elim, arith}
use mathlib.Core.Bool.{or-true}
use borrow.Author.Tests.{eq-eqb, le-ltb, le-leb, eqb-true, not-false}
use Rattle.places.specs.Below.{any_below}
use Rattle.refusal.specs.Answers.{Checked, Valid, refuse, next}
use Rattle.refusal.specs.declared.Refusal.{Refusal}
use Rattle.refusal.specs.declared.Refusal.TheVariants.{Need}
use Rattle.sparse.specs.Vectors.{Vector, size}
use Rattle.sparse.specs.Calls.{bad_dims, falls, too_high, zero_at, checked_of}
use Rattle.sparse.specs.Sound.{Sound}
use Rattle.sparse.proofs.Checks.{sound, size_most}
use Rattle.regions.specs.Capacity.{capacity_for}
use Rattle.regions.specs.Regions.{Pair, inside}
use Rattle.regions.proofs.Capacities.{cap_room}
use Rattle.headers.specs.Headers.{too_many}
use Rattle.aggregate_svecf32.specs.States.{held, consistent, state_of}
use Rattle.aggregate_svecf32.specs.Calls.{begin_of, spare, merge_of, take_of, row_of, combine_of, move_of, moved, Moves}
use Rattle.aggregate_svecf32.specs.declared.Header.{Header}
use Rattle.aggregate_svecf32.proofs.Consistent.{state_sure}
use Rattle.aggregate_svecf32.proofs.Joined.{merge_need, merge_passes}
use Rattle.aggregate_svecf32.proofs.Keeps.{move_keeps}
use Rattle.dealing.specs.Runs.{Told}

-- ---- tests that find NEED

-- a test for another refusal has failed
past : (test : Bool) (r : Refusal) (later : Checked) {c : ℕ} → refuse test r later ≡ Err (Need c) → (r ≡ Need c → ⊥)
    → (test ≡ false) × (later ≡ Err (Need c))
past true r later e other = absurd (other (cc))
past false r later e other = (refl, e)

never : {c : ℕ} → Valid ≡ Err (Need c) → ⊥
never e = cc

row_other : (v : Vector) {c : ℕ} → checked_of v ≡ Err (Need c) → ⊥
unfolding checked_of
row_other v e =
    let a = past (bad_dims v.dims) _ _ e (λ q. cc) in
    let b = past (not (eqb (size v) (length v.values))) _ _ a.1 (λ q. cc) in
    let c = past (any_below (falls v.indexes) (size v)) _ _ b.1 (λ q. cc) in
    let d = past (too_high v.dims v.indexes) _ _ c.1 (λ q. cc) in
    never (past (any_below (zero_at v.values) (length v.values)) _ _ d.1 (λ q. cc)).1

state_other : (h : Header) (p : Pair) {c : ℕ} → state_of h p ≡ Err (Need c) → ⊥
unfolding state_of
state_other h p e =
    let a = past (not (inside h.start h.length p)) _ _ e (λ q. cc) in
    never (past (not (consistent h p)) _ _ a.1 (λ q. cc)).1

-- tests that find other numbers only have found nothing
past_all : (first later : Checked) {c : ℕ} → (first ≡ Err (Need c) → ⊥) → next first later ≡ Err (Need c)
    → (first ≡ Valid) × (later ≡ Err (Need c))
past_all (Ok tt) later other e = (refl, e)
past_all (Err r) later other e = absurd (other e)

-- ---- a vector comes to a state that answers NEED

-- the state has begun, the vector fits it, and only room is wanting
record Wanting (h : Header) (v : Vector) (more c : ℕ) : Type 0 where
  begun : h.begun ≡ true
  same : h.dims ≡ v.dims
  few : too_many h.count more ≡ false
  full : spare h (size v) ≡ false
  wants : capacity_for h.dims (h.len + size v) ≡ c

module _ (h : Header) (v : Vector) (more : ℕ) {c : ℕ} where
  wanting : take_of h v more ≡ Err (Need c) → Wanting h v more c
  wanting = go h.begun refl
    where
      full : h.begun ≡ true → h.dims ≡ v.dims → too_many h.count more ≡ false → merge_of h v more ≡ Err (Need c)
          → (b : Bool) → spare h (size v) ≡ b → Wanting h v more c
      full t same few e true f = absurd (never (sym (merge_passes h v more same few f) ∙ e))
      full t same few e false f = record { begun = t; same = same; few = few; full = f; wants = cc (merge_need h v more same few f) }

      go : (b : Bool) → h.begun ≡ b → cond b (merge_of h v more) (begin_of h v) ≡ Err (Need c) → Wanting h v more c
      go false t e = absurd (never (past (ltb h.length (capacity_for v.dims (size v))) _ _ e (λ q. cc)).1)
      go true t e =
          let a = past (not (eqb h.dims v.dims)) _ _ e (λ q. cc) in
          let b = past (too_many h.count more) _ _ a.1 (λ q. cc) in
          full t (eqb-true h.dims v.dims (not-false _ a.0)) b.0 e (spare h (size v)) refl

-- a move for n entries more to a region passes, and whatever it hands back and leaves, the tests that found NEED then find nothing
abbrev pub Mends : Header → Pair → ℕ → Pair → ℕ → ℕ → (Header → Pair → Checked) → Type 0
Mends h p n q start long again =
    (move_of h p n q start long ≡ Valid) × ((r : Told) (k : Header) (o : Pair) → Moves h p n q start long r k o → again k o ≡ Valid)

-- any region inside the lists q that has the room wanted
module _ (h : Header) (p : Pair) (q : Pair) (start long : ℕ) (within : inside start long q ≡ true) {c : ℕ} (room : c ≤ long) where
  move_passes : (v : Vector) (more : ℕ) → state_of h p ≡ Valid → Sound v → Wanting h v more c → move_of h p (size v) q start long ≡ Valid
  unfolding move_of
  move_passes v more state row w =
      rw (
        state,
        w.begun,
        le-ltb h.dims (size v) (omega (arith, size_most row, w.same)),
        w.full,
        within,
        le-ltb long (capacity_for h.dims (h.len + size v)) (omega (arith, w.wants)),
      )

  -- the capacity for len and the vector's length has room for the vector, or is dims
  moved_takes : (v : Vector) (more : ℕ) → Wanting h v more c → take_of (moved h p (size v) start long).header v more ≡ Valid
  moved_takes v more w =
      let g = (moved h p (size v) start long).header in
      merge_passes g v more w.same w.few
      (⊎_elim
      (λ e. rw (eq-eqb g.capacity g.dims e))
      (λ l. rw (le-leb (size v) (g.capacity - g.len) (omega arith)) (or-true (eqb g.capacity g.dims)))
      (cap_room h.dims (h.len + size v)))

  mends : (first : Checked) (v : Vector) (more : ℕ) → first ≡ Valid → state_of h p ≡ Valid → Sound v → take_of h v more ≡ Err (Need c)
      → Mends h p (size v) q start long (λ g o. next first (next (state_of g o) (take_of g v more)))
  mends first v more passed state row e =
      let w = wanting h v more e in
      let passes = move_passes v more state row w in (
        passes,
        λ r g o acts. let k = move_keeps h p (size v) q start long acts passes in rw (k.header, passed, k.state) (moved_takes v more w),
      )

  -- ---- the calls

  pub need_made_good : (v : Vector) → row_of h p v ≡ Err (Need c) → Mends h p (size v) q start long (λ g o. row_of g o v)
  unfolding row_of
  need_made_good v e =
      let a = past_all (checked_of v) _ (row_other v) e in
      let b = past_all (state_of h p) _ (state_other h p) a.1 in
      mends (checked_of v) v 1 a.0 b.0 (sound v a.0) b.1

  pub combine_made_good : (b : Header) (y : Pair) → combine_of h p b y ≡ Err (Need c)
      → Mends h p b.len q start long (λ g o. combine_of g o b y)
  unfolding combine_of
  combine_made_good b y e =
      let a = past_all (state_of b y) _ (state_other b y) e in
      let d = past_all (state_of h p) _ (state_other h p) a.1 in
      go b.begun refl a.0 d.0 d.1
    where
      tests : Bool → Header → Pair → Checked
      tests t g o = next (state_of b y) (next (state_of g o) (cond t (take_of g (held b y) b.count) Valid))

      go : (t : Bool) → b.begun ≡ t → state_of b y ≡ Valid → state_of h p ≡ Valid
          → cond t (take_of h (held b y) b.count) Valid ≡ Err (Need c) → Mends h p b.len q start long (tests t)
      go false t passed state e = absurd (never e)
      go true t passed state e =
          let s = state_sure b y passed t in
          subst (λ (n : ℕ). Mends h p n q start long (tests true)) s.many
          (mends (state_of b y) (held b y) b.count passed state s.fair.sound e)
