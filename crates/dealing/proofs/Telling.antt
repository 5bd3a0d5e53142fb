-- What a state that took in rows tells of them: their order does not matter, and if they are whole its sum and its average are those of the
-- totals. Assumes nothing.
use Prim.Native.Nat.{ℕ, zero, suc, ◌≤◌, ◌<◌}
use native.Mathlib.Omega.{arith}
use mathlib.Core.Bool.{Bool, true, false, cond}
use mathlib.Core.List.Perm
use mathlib.Core.List.{List, [], ◌∷◌, ◌++◌, Perm}
use mathlib.Core.Path.{◌≡◌, refl, sym, ap, ap₂, ◌∙◌, subst₂}
use lib.Dec.{T, eqb, eqb→eq}
use lib.IntN.{ℤ, nat_abs}
use lib.ListN.{length}
use lib.Ieee.{Float, binary32, fits}
use lib.Ieee.Fits.{and_l}
use Rattle.whole.specs.Sums.{all}
use Rattle.whole.proofs.Folds.{size_sum, perm_sum, perm_weight, perm_all, perm_length}
use Rattle.refusal.specs.Answers.{Checked, Valid}
use Rattle.sparse.specs.Cells.{index_of, indexes_below}
use Rattle.sparse.specs.Vectors.{Vector, vector, size, at}
use Rattle.sparse.specs.Calls.{checked_of, room_of, Leaves}
use Rattle.sparse.specs.Numbers.{is_whole, number_at}
use Rattle.sparse.specs.declared.Cell.TheVariants.{Empty, Full}
use Rattle.sparse.proofs.Entries.{entries_same}
use Rattle.sparse.proofs.Meaning.{at_below}
use Rattle.regions.specs.Regions.{Pair}
use Rattle.averages.specs.Averages.{over, shared}
use Rattle.headers.specs.Headers.{passes}
use Rattle.aggregate_svecf32.specs.States.{held, state_of}
use Rattle.aggregate_svecf32.specs.Calls.{finish_of}
use Rattle.aggregate_svecf32.specs.declared.Header.{Header}
use Rattle.aggregate_svecf32.proofs.Consistent.{state_sure}
use Rattle.dealing.specs.Runs.{Store, State}
use Rattle.dealing.specs.Totals.{numbers_at, total_at, entry, total, share, totals, averages}
use Rattle.dealing.specs.Demand.{Exact, Takes, Tells}
use Rattle.dealing.proofs.Added.{sum_totals}
use Rattle.dealing.proofs.Holding.{Holding, bare, full}
use Rattle.dealing.proofs.Quotients.{over_entry}

-- ---- the order of the rows

module _ {xs ys : List Vector} (p : Perm xs ys) where
  same_total : (k : ℕ) → total_at xs k ≡ total_at ys k
  same_total k = perm_sum (Perm.map (λ (v : Vector). number_at (at v k)) p)

  same_all : (t : Vector → Bool) → T (all t xs) → T (all t ys)
  same_all t h = rw (← perm_all t p) h

  same_exact : Exact xs → Exact ys
  same_exact w = record {
    floats = same_all (λ v. all (fits binary32) v.values) w.floats;
    whole = same_all is_whole w.whole;
    small = λ k. rw (← perm_weight (Perm.map (λ (v : Vector). number_at (at v k)) p)) (w.small k);
  }

module _ (p : Pair) (h : Header) where
  -- a state that took in rows took in the same rows in any order
  pub same_holding : {xs ys : List Vector} → Perm xs ys → Holding p h xs → Holding p h ys
  same_holding {ys = ys} q (bare t z) = rw (Perm.eq-nil (Perm.symm q)) (bare t z)
  same_holding {xs} {ys} q (full t s c v) =
      full {o = ys} t s (c ∙ perm_length q)
      (record {
        sound = v.sound;
        valid = same_all q (λ w. passes (checked_of w)) v.valid;
        dims = same_all q (λ w. eqb w.dims h.dims) v.dims;
        exact = λ w k l. v.exact (same_exact (Perm.symm q) w) k l ∙ ap (entry total) (same_total q k);
      })

-- ---- what it tells

-- rows that are all of dims c and all of dims d
same_dims : (c d : ℕ) (o : List Vector) → 1 ≤ length o → T (all (λ v. eqb v.dims c) o) → T (all (λ v. eqb v.dims d) o) → c ≡ d
same_dims c d [] h a b = absurd (omega arith)
same_dims c d (v ∷ o) h a b =
    sym (eqb→eq v.dims c (and_l (eqb v.dims c) (all (λ v. eqb v.dims c) o) a))
    ∙ eqb→eq v.dims d (and_l (eqb v.dims d) (all (λ v. eqb v.dims d) o) b)

-- the test of a call that finishes: only room is left to test
finish_room : (h : Header) (p : Pair) (i v : ℕ) → h.begun ≡ true → state_of h p ≡ Valid → finish_of h p i v ≡ room_of h.len i v
unfolding finish_of
finish_room h p i v t s = rw (s, t)

-- entries of the same numbers stand at the same places
same_places : (f g : ℤ → Float) (z : ℕ → ℤ) (n : ℕ) → indexes_below (λ k. entry f (z k)) n ≡ indexes_below (λ k. entry g (z k)) n
unfolding indexes_below
same_places f g z zero = refl
same_places f g z (suc n) = ap₂ ◌++◌ (same_places f g z n) (go (eqb (nat_abs (z n)) 0))
  where
    go : (b : Bool) → index_of (cond b Empty (Full (f (z n)))) n ≡ index_of (cond b Empty (Full (g (z n)))) n
    go true = refl
    go false = refl

-- each total, divided by the count, is its share: none is dropped
module _ (d : ℕ) (rows : List Vector) (t : Takes d rows) where
  share_at : (k : ℕ) → k < d → over (length rows) (at (totals d rows) k) ≡ entry (share (length rows)) (total_at rows k)
  share_at k h =
      ap (over (length rows)) (at_below (λ k. entry total (total_at rows k)) d k h)
      ∙ over_entry (total_at rows k) (length rows) (omega (arith, size_sum (numbers_at rows k), t.exact.small k)) t.some
      t.dealable.few

  shares : shared (length rows) (totals d rows) ≡ averages d rows
  shares = let e = entries_same _ _ d share_at in ap₂ (vector d) e.0 e.1

pub tells : (m : Store) (s : State) (d : ℕ) (rows : List Vector) → Takes d rows → Holding (m s.lists) s.header rows → Tells m s d rows
tells m s d rows t (bare b z) = absurd (omega (arith, t.some))
tells m s d rows t (full b y c v) = record {
  count = c;
  sum = λ oi ov r oi' ov' x.
      subst₂ (λ (due : Checked) (v : Vector). Leaves due v oi ov r oi' ov') (room (length oi) (length ov) (totals d rows) refl) holds x;
  average = λ oi ov r oi' ov' x.
      subst₂ (λ (due : Checked) (v : Vector). Leaves due v oi ov r oi' ov')
      (room (length oi) (length ov) (averages d rows) (same_places total (share (length rows)) (total_at rows) d))
      divided x;
}
  where
    h : Header
    h = s.header

    p : Pair
    p = m s.lists

    holds : held h p ≡ totals d rows
    holds =
        sum_totals (held h p) rows v t.exact
        ∙ ap (λ (n : ℕ). totals n rows) (same_dims h.dims d rows t.some v.dims t.dealable.dims)

    divided : shared h.count (held h p) ≡ averages d rows
    divided = ap₂ shared c holds ∙ shares d rows t

    room : (i n : ℕ) (w : Vector) → (totals d rows).indexes ≡ w.indexes → finish_of h p i n ≡ room_of (size w) i n
    room i n w e =
        finish_room h p i n b y
        ∙ ap (λ (l : ℕ). room_of l i n) (sym (state_sure h p y b).many ∙ ap (λ (u : Vector). size u) holds ∙ ap length e)
