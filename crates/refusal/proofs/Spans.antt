-- Which bounds can be cut: two comparisons decide it, since at the largest u32 a start is past every end and an end past every dims.
-- Assumes nothing.
use Rattle.std.proofs.Common.{◌≡◌, ℕ, ◌≤◌, ◌<◌, Bool, true, false, cond, ◌||◌, leb, ltb, Some, None, refl, ap, arith}
use Rattle.std.specs.declared.ops.Bound.{Bound}
use Rattle.std.specs.declared.ops.Bound.TheVariants.{Included, Excluded, Unbounded}
use Rattle.std.specs.declared.ops.Range.{Range}
use mathlib.Core.Bool.{or-true}
use borrow.Author.Tests.{le-leb, lt-leb, lt-ltb, le-ltb, ne_eqb, leb-false, ltb-false}
use Rattle.refusal.specs.Bounds.{start_of, end_of, top_start, top_end, bad_bounds, span_of}

pub bad_order : (from to : Bound ℕ) (d : ℕ) → end_of d to ≤ start_of from → bad_bounds from to d ≡ true
bad_order from to d h = rw (le-leb (end_of d to) (start_of from) h, or-true)

pub bad_end : (from to : Bound ℕ) (d : ℕ) → d < end_of d to → bad_bounds from to d ≡ true
bad_end from to d h = rw (lt-ltb d (end_of d to) h, or-true)

low_start : (from : Bound ℕ) → start_of from < 4294967296 → top_start from ≡ false
low_start (Included n) h = refl
low_start (Excluded n) h = ne_eqb n 4294967295 (λ e. omega arith)
low_start Unbounded h = refl

low_end : (d : ℕ) (to : Bound ℕ) → end_of d to < 4294967296 → top_end to ≡ false
low_end d (Included n) h = ne_eqb n 4294967295 (λ e. omega arith)
low_end d (Excluded n) h = refl
low_end d Unbounded h = refl

pub good : (from to : Bound ℕ) (d : ℕ) → start_of from < end_of d to → end_of d to ≤ d → d < 4294967296 → bad_bounds from to d ≡ false
good from to d h l w =
    rw (low_start from (omega arith), low_end d to (omega arith), lt-leb (end_of d to) (start_of from) h, le-ltb d (end_of d to) l)

-- ---- what the answer tells

abbrev range : ℕ → ℕ → Range ℕ
range a b = record { start = a; end = b }

pub span_bad : (from to : Bound ℕ) (d : ℕ) → span_of from to d ≡ None → bad_bounds from to d ≡ true
span_bad from to d e = go (bad_bounds from to d) e
  where
    go : (b : Bool) → cond b None (Some (range (start_of from) (end_of d to))) ≡ None → b ≡ true
    go true q = refl
    go false q = absurd cc

-- a part that can be cut
pub record Part (from to : Bound ℕ) (d start end : ℕ) : Type 0 where
  pub fair : bad_bounds from to d ≡ false
  pub starts : start ≡ start_of from
  pub ends : end ≡ end_of d to
  pub rising : start < end
  pub within : end ≤ d

pub span_part : (from to : Bound ℕ) (d start end : ℕ) → span_of from to d ≡ Some (range start end) → Part from to d start end
span_part from to d start end e =
    go (top_start from || top_end to) (leb (end_of d to) (start_of from)) (ltb d (end_of d to)) refl refl refl e
  where
    go : (t l r : Bool) → (top_start from || top_end to) ≡ t → leb (end_of d to) (start_of from) ≡ l → ltb d (end_of d to) ≡ r
        → cond (t || l || r) None (Some (range (start_of from) (end_of d to))) ≡ Some (range start end) → Part from to d start end
    go true l r et el er q = absurd cc
    go false true r et el er q = absurd cc
    go false false true et el er q = absurd cc
    go false false false et el er q =
        let same : range start end ≡ range (start_of from) (end_of d to) = cc in
        let s : start ≡ start_of from = ap (λ (r : Range ℕ). r.start) same in
        let f : end ≡ end_of d to = ap (λ (r : Range ℕ). r.end) same in
        record {
          fair = rw (et, el, er);
          starts = s;
          ends = f;
          rising = omega (arith, leb-false (end_of d to) (start_of from) el);
          within = omega (arith, ltb-false d (end_of d to) er);
        }
