-- What numbers that pass a header's tests are, and that such numbers pass them. Assumes nothing.
use Prim.Native.Nat.{ℕ, ◌≤◌}
use mathlib.Core.Bool.{Bool, true, false, not, ◌&&◌, true≢false}
use mathlib.Core.Path.{◌≡◌, refl, sym, ◌∙◌}
use lib.Dec.{leb, ltb, eqb}
use borrow.Author.Tests.{eqb-true, ltb-true, leb-true, lt-ltb, le-leb}
use Rattle.places.proofs.Below.{and_true}
use Rattle.refusal.specs.Answers.{Checked, Valid}
use Rattle.std.specs.Prelude.{Ok, Err}
use Rattle.std.specs.Result.{is_ok}
use Rattle.refusal.proofs.Dims.{in_range}
use Rattle.sparse.specs.Calls.{bad_dims, checked_of}
use Rattle.sparse.specs.Vectors.{Vector}
use Rattle.sparse.specs.Sound.{Sound}
use Rattle.sparse.proofs.Checks.{sound, valid}
use Rattle.regions.specs.Capacity.{is_capacity}
use Rattle.headers.specs.Headers.{most_rows, passes, fair, zeros}

-- the numbers of a header that has begun, and the vector of its entries
pub record Fair (length len c count : ℕ) (v : Vector) : Type 0 where
  pub capacity : is_capacity v.dims c ≡ true
  pub room : len ≤ c
  pub fits : c ≤ length
  pub some : 1 ≤ count
  pub most : count ≤ most_rows
  pub sound : Sound v

-- those of a header that has not
pub record Bare (d l c n : ℕ) : Type 0 where
  pub dims : d ≡ 0
  pub len : l ≡ 0
  pub capacity : c ≡ 0
  pub count : n ≡ 0

passed : (c : Checked) → passes c ≡ true → c ≡ Valid
passed (Ok tt) e = refl
passed (Err r) e = absurd (true≢false (sym e))

-- a test that cannot hold fails
failed : (b : Bool) → (b ≡ true → ⊥) → b ≡ false
failed true wrong = absurd (wrong refl)
failed false wrong = refl

module _ (d len capacity count : ℕ) where
  pub bare_facts : zeros d len capacity count ≡ true → Bare d len capacity count
  bare_facts e =
      let empty : Bool = eqb d 0 && eqb len 0 in
      let a = and_true (empty && eqb capacity 0) (eqb count 0) e in
      let b = and_true empty (eqb capacity 0) a.0 in
      let c = and_true (eqb d 0) (eqb len 0) b.0 in
      record {
        dims = eqb-true d 0 c.0;
        len = eqb-true len 0 c.1;
        capacity = eqb-true capacity 0 b.1;
        count = eqb-true count 0 a.1;
      }

  pub facts_bare : Bare d len capacity count → zeros d len capacity count ≡ true
  facts_bare b = rw (b.dims, b.len, b.capacity, b.count)

  pub not_bare : (Bare d len capacity count → ⊥) → zeros d len capacity count ≡ false
  not_bare wrong = failed (zeros d len capacity count) (λ e. wrong (bare_facts e))

module _ (length len capacity count : ℕ) (v : Vector) where
  pub fair_facts : fair length len capacity count v ≡ true → Fair length len capacity count v
  fair_facts e =
      let sized : Bool = not (bad_dims v.dims) && is_capacity v.dims capacity in
      let roomy : Bool = sized && leb len capacity in
      let fitting : Bool = roomy && leb capacity length in
      let counted : Bool = fitting && ltb 0 count in
      let few : Bool = counted && leb count most_rows in
      let a = and_true few (passes (checked_of v)) e in
      let b = and_true counted (leb count most_rows) a.0 in
      let c = and_true fitting (ltb 0 count) b.0 in
      let d = and_true roomy (leb capacity length) c.0 in
      let f = and_true sized (leb len capacity) d.0 in
      let g = and_true (not (bad_dims v.dims)) (is_capacity v.dims capacity) f.0 in
      record {
        capacity = g.1;
        room = leb-true len capacity f.1;
        fits = leb-true capacity length d.1;
        some = ltb-true 0 count c.1;
        most = leb-true count most_rows b.1;
        sound = sound v (passed (checked_of v) a.1);
      }

  pub facts_fair : Fair length len capacity count v → fair length len capacity count v ≡ true
  facts_fair f =
      rw (
        in_range 1048575 v.dims f.sound.low f.sound.high,
        f.capacity,
        le-leb len capacity f.room,
        le-leb capacity length f.fits,
        lt-ltb 0 count f.some,
        le-leb count most_rows f.most,
        valid v f.sound,
      )

  pub not_fair : (Fair length len capacity count v → ⊥) → fair length len capacity count v ≡ false
  not_fair wrong = failed (fair length len capacity count v) (λ e. wrong (fair_facts e))

  -- where the numbers pass, the entries decide
  pub entries_fair : is_capacity v.dims capacity ≡ true → len ≤ capacity → capacity ≤ length → 1 ≤ count → count ≤ most_rows
      → (r : Checked) → r ≡ checked_of v → is_ok r ≡ fair length len capacity count v
  entries_fair c l f n m (Ok tt) e =
      sym (facts_fair (record { capacity = c; room = l; fits = f; some = n; most = m; sound = sound v (sym e) }))
  entries_fair c l f n m (Err r) e = sym (not_fair (λ g. let z : Err r ≡ Valid = e ∙ valid v g.sound in absurd cc))
