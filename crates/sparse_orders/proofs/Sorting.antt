-- What sorting needs, of what `partial_cmp` answers: Less or Equal is antisymmetric and transitive, Equal is equality, and without NaN one of Less,
-- Equal and Greater is answered. Assumes nothing.
use Rattle.std.proofs.Common.{◌≡◌, ℕ, zero, suc, min, ◌≤◌, ◌<◌, Bool, true, false, not, cond, ◌&&◌, List, [], ◌∷◌, length, get_or, eqb, ◌⊎◌, inl, inr, Option, Some, None, Result, Ok, Err, refl, sym, ap, ◌∙◌, ⊎_elim, true≢false, eq-or-lt_of_le, arith, le-ltb, eq-eqb, eqb-true}
use Rattle.std.specs.Bool.{passes}
use Rattle.std.specs.Float.{◌≤ᶠ◌}
use Rattle.std.specs.declared.cmp.Ordering.{Ordering}
use Rattle.std.specs.declared.cmp.Ordering.TheVariants.{Less, Equal, Greater}
use Rattle.std.proofs.lemmas.Float.{le_of_lt, le_of_eq, le_trans, lt-or-eq}
use native.Mathlib.Nat.{le-min, min-le_left}
use lib.Ieee.{Float, nan, of_bits, eq, lt, is_nan}
use Rattle.places.proofs.Below.{le_or_lt, and_true, any_false}
use Rattle.refusal.specs.Answers.{Checked, Valid, answer}
use Rattle.refusal.specs.declared.Refusal.{Refusal}
use Rattle.refusal.proofs.Chains.{next_valid}
use Rattle.refusal.proofs.Told.{value_told}
use Rattle.sparse.specs.Calls.{checked_of, each_of}
use Rattle.sparse.specs.Cells.{zero32, look}
use Rattle.sparse.specs.declared.Cell.TheVariants.{Full}
use Rattle.sparse.specs.Vectors.{Vector, size}
use Rattle.sparse.proofs.Checks.{sound}
use Rattle.sparse_orders.specs.Calls.{Equals, Compares}
use Rattle.sparse_orders.specs.Dense.{answered, mirror, value_or0, dense, first_apart, dense_order, NoNan, not_above, up_to}
use Rattle.sparse_orders.specs.Orders.{same_entry, same_entries, compared, order_by}
use Rattle.sparse_orders.proofs.Apart.{equal_before, apart_there, dense_there, dense_nowhere}
use Rattle.sparse_orders.proofs.Dense.{order_equal, dense_answer}
use Rattle.sparse_orders.proofs.Floats.{so, apart, eq_turned, up_to_both}
use Rattle.sparse_orders.proofs.Mirror.{order_is, compares, valid_answer, answer_is, mirrored}
use Rattle.sparse_orders.proofs.Meaning.{both}
use Rattle.sparse_orders.proofs.Others.{all_same}

-- Less or Equal is no refusal
known : (r : Result (Option Ordering) Refusal) → up_to r ≡ true → answered r ≡ true
known (Ok o) h = refl
known (Err r) h = h

-- ---- antisymmetry

-- vectors each of which is Less or Equal to the other are Equal
pub antisymmetric : (a b : Vector) {r s : Result (Option Ordering) Refusal} → Compares a b r → Compares b a s → up_to r ≡ true → up_to s ≡ true
    → r ≡ Ok (Some Equal)
antisymmetric a b {r} {s} c d p q = go r p (mirrored a b c d (known r p))
  where
    go : (r : Result (Option Ordering) Refusal) → up_to r ≡ true → s ≡ mirror r → r ≡ Ok (Some Equal)
    go (Ok (Some Less)) h e = absurd (true≢false (sym (rw e at q)))
    go (Ok (Some Equal)) h e = refl
    go (Ok (Some Greater)) h e = absurd (true≢false (sym h))
    go (Ok None) h e = absurd (true≢false (sym h))
    go (Err n) h e = absurd (true≢false (sym h))

-- ---- transitivity, from the dense form

-- where all places before are equal, the left value is not above the right one
abbrev Climbs : ℕ → (ℕ → Float) → (ℕ → Float) → Type 0
Climbs d f g = (k : ℕ) → k < d → ((j : ℕ) → j < k → eq (f j) (g j) ≡ true) → f k ≤ᶠ g k

equal_le : (x y : Float) → eq x y ≡ true → x ≤ᶠ y
equal_le x y h = le_of_eq x y (passes (eq x y) h)

compared_up_to : (x y : Float) → not_above (compared x y) ≡ true → x ≤ᶠ y
compared_up_to x y h = go (lt x y) (lt y x) (eq x y) refl refl h
  where
    go : (p q e : Bool) → lt x y ≡ p → eq x y ≡ e → not_above (cond p (Some Less) (cond q (Some Greater) (cond e (Some Equal) None))) ≡ true → x ≤ᶠ y
    go true q e s t h = le_of_lt x y (passes (lt x y) s)
    go false true e s t h = absurd (true≢false (sym h))
    go false false true s t h = equal_le x y t
    go false false false s t h = absurd (true≢false (sym h))

module _ (d : ℕ) (f g : ℕ → Float) where
  abbrev m : ℕ
  m = first_apart d f g

  up_to_climbs : not_above (dense_order d f g) ≡ true → Climbs d f g
  up_to_climbs u k l all =
      ⊎_elim
      (λ h.
      ⊎_elim
      (λ e. rw (← e) (compared_up_to (f m) (g m) (sym (ap not_above (dense_there d f g (omega arith))) ∙ u)))
      (λ n. absurd (true≢false (sym (all m n) ∙ apart_there d f g (omega arith))))
      (eq-or-lt_of_le h))
      (λ h. equal_le (f k) (g k) (equal_before d f g k h))
      (le_or_lt m k)

  climbs_up_to : Climbs d f g → not_above (dense_order d f g) ≡ true
  climbs_up_to c =
      ⊎_elim
      (λ h. ap not_above (dense_nowhere d f g h))
      (λ h.
      ⊎_elim
      (λ l. ap not_above (dense_there d f g h ∙ less (f m) (g m) (so (lt (f m) (g m)) l)))
      (λ e. absurd (true≢false (sym (so (eq (f m) (g m)) e) ∙ apart_there d f g h)))
      (lt-or-eq (f m) (g m) (c m h (equal_before d f g))))
      (le_or_lt d m)
    where
      less : (x y : Float) → lt x y ≡ true → compared x y ≡ Some Less
      less x y l = rw l

climbs_trans : (d : ℕ) (f g h : ℕ → Float) → Climbs d f g → Climbs d g h → Climbs d f h
climbs_trans d f g h p q k l all =
    let s = equal k (omega arith) in
    le_trans (f k) (g k) (h k) (p k l (λ j i. (s j i).0)) (q k l (λ j i. (s j i).1))
  where
    equal : (n : ℕ) → n ≤ k → (j : ℕ) → j < n → (eq (f j) (g j) ≡ true) × (eq (g j) (h j) ≡ true)
    equal zero le j i = absurd (omega arith)
    equal (suc n) le j i =
        let s = equal n (omega arith) in
        let u = p n (omega arith) (λ j i. (s j i).0) in
        let v = q n (omega arith) (λ j i. (s j i).1) in
        let e : h n ≤ᶠ f n = equal_le (h n) (f n) (eq_turned (h n) (f n) ∙ all n (omega arith)) in
        ⊎_elim
        (λ same.
        let z : j ≡ n = omega arith in
        rw z (up_to_both (f n) (g n) u (le_trans (g n) (h n) (f n) v e), up_to_both (g n) (h n) v (le_trans (h n) (f n) (g n) e u)))
        (λ less. s j (omega arith))
        (eq-or-lt_of_le i)

module _ (a b : Vector) {r : Result (Option Ordering) Refusal} (call : Compares a b r) (up : up_to r ≡ true) where
  up_to_dims : a.dims ≡ b.dims
  up_to_dims = go (eqb a.dims b.dims) refl (sym (ap up_to (answer_is a b call (known r up)).2) ∙ up)
    where
      go : (t : Bool) → eqb a.dims b.dims ≡ t → not_above (cond t (order_by a b) None) ≡ true → a.dims ≡ b.dims
      go true e h = eqb-true a.dims b.dims e
      go false e h = absurd (true≢false (sym h))

  climbs : Climbs a.dims (dense a) (dense b)
  climbs =
      let v = answer_is a b call (known r up) in
      up_to_climbs a.dims (dense a) (dense b) (sym (ap up_to (dense_answer a b call v.0 v.1 up_to_dims)) ∙ up)

-- Less or Equal goes on from a to b to c; with NaN too, since where one decides the answer is neither
pub transitive : (a b c : Vector) {r s t : Result (Option Ordering) Refusal} → Compares a b r → Compares b c s → Compares a c t → up_to r ≡ true → up_to s ≡ true → up_to t ≡ true
transitive a b c {r} {s} ab bc ac p q =
    let va = (answer_is a b ab (known r p)).0 in
    let vc = (answer_is b c bc (known s q)).1 in
    let left = up_to_dims a b ab p in
    let right = rw (← left) at (climbs b c bc q) in
    ap up_to (dense_answer a c ac va vc (left ∙ up_to_dims b c bc q))
    ∙ climbs_up_to a.dims (dense a) (dense c) (climbs_trans a.dims (dense a) (dense b) (dense c) (climbs a b ab p) right)

-- and that is Equal only if both are: where one of them is Less it is Less
pub equal_only : (a b c : Vector) {r s t : Result (Option Ordering) Refusal} → Compares a b r → Compares b c s → Compares a c t → up_to r ≡ true → up_to s ≡ true → t ≡ Ok (Some Equal)
    → (r ≡ Ok (Some Equal)) × (s ≡ Ok (Some Equal))
equal_only a b c ab bc ac p q e =
    let ca = compares c a refl in
    let back = ap up_to (mirrored a c ac ca (ap answered e) ∙ ap mirror e) in
    let ba = compares b a refl in
    let cb = compares c b refl in
    (antisymmetric a b ab ba p (transitive b c a bc ca ba q back), antisymmetric b c bc cb q (transitive c a b ca ab cb back p))

-- ---- Equal is equality

same_order : (a b : Vector) → same_entries a b ≡ true → order_by a b ≡ Some Equal
same_order a b same =
    let n = min (size a) (size b) in
    let q = both a b same in
    let left : size a ≤ n = le-min (omega arith) (omega arith) in
    let all = all_same a b n (λ k h. any_false (λ i. not (same_entry a b i)) (size a) k q.1 (omega (arith, min-le_left (size a) (size b)))) in
    rw (← all, le-ltb n (size a) left, le-ltb n (size b) (omega arith))

yes_told : (b : Bool) (due : Checked) → answer b due ≡ Ok true → (due ≡ Valid) × (b ≡ true)
yes_told b due h = let v = value_told b true due h in (v.0, sym v.1)

-- `partial_cmp` answers Equal exactly where `eq` answers yes, for whatever both are given
module _ (a b : Vector) {r : Result (Option Ordering) Refusal} {t : Result Bool Refusal} (order : Compares a b r) (equality : Equals a b t) where
  pub equal_yes : r ≡ Ok (Some Equal) → t ≡ Ok true
  equal_yes e =
      let v = answer_is a b order (rw e refl) in
      let dims = up_to_dims a b order (rw e refl) in
      let d = eq-eqb a.dims b.dims dims in
      let same : Ok (order_is a b) ≡ Ok (Some Equal) = sym v.2 ∙ e in
      let o : order_is a b ≡ Some Equal = cc in
      equality.answer ∙ rw (v.0, v.1, d, order_equal a b (sound a v.0) (sound b v.1) dims (rw d at o))

  pub yes_equal : t ≡ Ok true → r ≡ Ok (Some Equal)
  yes_equal e =
      let y = yes_told (eqb a.dims b.dims && same_entries a b) (each_of a b) (sym equality.answer ∙ e) in
      let v = next_valid (checked_of a) (checked_of b) y.0 in
      let s = and_true (eqb a.dims b.dims) (same_entries a b) y.1 in
      valid_answer a b order v.0 v.1 ∙ rw s.0 (ap Ok (same_order a b s.1))

-- ---- without NaN one of three

zero_number : is_nan zero32 ≡ false
unfolding is_nan of_bits
zero_number = refl

dense_number : (is : List ℕ) (vs : List Float) → ((i : ℕ) → i < length is → is_nan (get_or vs i nan) ≡ false)
    → (k : ℕ) → is_nan (value_or0 (look is vs k)) ≡ false
unfolding look
dense_number [] vs all k = zero_number
dense_number (i ∷ is) [] all k = zero_number
dense_number (i ∷ is) (v ∷ vs) all k = go (eqb i k) (all zero (omega arith)) (dense_number is vs (λ j h. all (suc j) (omega arith)) k)
  where
    go : (b : Bool) → is_nan v ≡ false → is_nan (value_or0 (look is vs k)) ≡ false → is_nan (value_or0 (cond b (Full v) (look is vs k))) ≡ false
    go true p q = p
    go false p q = q

compared_apart : (x y : Float) → is_nan x ≡ false → is_nan y ≡ false → eq x y ≡ false → (compared x y ≡ Some Less) ⊎ (compared x y ≡ Some Greater)
compared_apart x y n m e = go (lt x y) refl
  where
    go : (b : Bool) → lt x y ≡ b → (compared x y ≡ Some Less) ⊎ (compared x y ≡ Some Greater)
    go true h = inl (rw h)
    go false h = inr (rw (h, apart x y n m e h))

-- valid vectors of equal dims without NaN are in order
pub total : (a b : Vector) {r : Result (Option Ordering) Refusal} → Compares a b r → checked_of a ≡ Valid → checked_of b ≡ Valid → a.dims ≡ b.dims → NoNan a → NoNan b
    → (r ≡ Ok (Some Less)) ⊎ (r ≡ Ok (Some Equal)) ⊎ (r ≡ Ok (Some Greater))
total a b {r} call va vb equal na nb =
    let d = a.dims in
    let f = dense a in
    let g = dense b in
    let m = first_apart d f g in
    let e = dense_answer a b call va vb equal in
    ⊎_elim
    (λ h. inr (inl (e ∙ ap Ok (dense_nowhere d f g h))))
    (λ h.
    let there = e ∙ ap Ok (dense_there d f g h) in
    ⊎_elim
    (λ l. inl (there ∙ ap Ok l))
    (λ l. inr (inr (there ∙ ap Ok l)))
    (compared_apart (f m) (g m) (dense_number a.indexes a.values na m) (dense_number b.indexes b.values nb m) (apart_there d f g h)))
    (le_or_lt d m)
