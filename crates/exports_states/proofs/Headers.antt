-- Headers as numbers: a header that goes out as numbers and comes back is the same, and numbers that no header has are refused. Assumes
-- nothing.
use Prim.Native.Nat.{ℕ, zero, suc, ◌≤◌}
use native.Mathlib.Omega.{arith}
use mathlib.Core.Bool.{Bool, true, false, ◌||◌, true≢false}
use mathlib.Core.List.{List, [], ◌∷◌}
use mathlib.Core.Path.{◌≡◌, refl}
use lib.Dec.{ltb, eqb}
use lib.ListN.{get_or}
use borrow.Author.Tests.{le-ltb, ltb-false}
use Rattle.std.proofs.Common.{Err}
use Rattle.refusal.specs.declared.Refusal.TheVariants.{State}
use Rattle.places.specs.Below.{one}
use Rattle.regions.specs.Regions.{Pair, inside}
use Rattle.aggregate_svecf32.specs.States.{numbers_of, consistent, state_of}
use Rattle.aggregate_svecf32.specs.declared.Header.{Header}
use Rattle.exports_states.specs.States.{no_header, header_of}

-- numbers that a header has
pub header_numbers : (b d : ℕ) → no_header b d ≡ false → (b ≤ 1) × (d ≤ 4294967295)
header_numbers b d e = go (ltb 1 b) (ltb 4294967295 d) refl refl e
  where
    go : (x y : Bool) → ltb 1 b ≡ x → ltb 4294967295 d ≡ y → (x || y) ≡ false → (b ≤ 1) × (d ≤ 4294967295)
    go false false p q e = (ltb-false 1 b p, ltb-false 4294967295 d q)
    go true y p q e = absurd (true≢false e)
    go false true p q e = absurd (true≢false e)

zero_or_one : (b : ℕ) → b ≤ 1 → one (eqb b 1) ≡ b
zero_or_one zero h = refl
zero_or_one (suc zero) h = refl
zero_or_one (suc (suc b)) h = absurd (omega arith)

-- dims is a u32 in every header
pub back : (h : Header) → h.dims ≤ 4294967295 → header_of (numbers_of h) ≡ h
back h d = go h.begun refl
  where
    go : (b : Bool) → h.begun ≡ b → header_of (numbers_of h) ≡ h
    go true e = rw (e, le-ltb 4294967295 h.dims d)
    go false e = rw (e, le-ltb 4294967295 h.dims d)

-- and numbers that a header has are those of the header that is read from them
pub same_numbers : (start length b d len capacity n : ℕ) → no_header b d ≡ false
    → let ns = start ∷ length ∷ b ∷ d ∷ len ∷ capacity ∷ n ∷ [] in numbers_of (header_of ns) ≡ ns
same_numbers start length b d len capacity n e = rw (e, zero_or_one b (header_numbers b d e).0)

-- numbers that no header has are never consistent, whatever the lists
module _ (ns : List ℕ) (bad : no_header (get_or ns 2 0) (get_or ns 3 0) ≡ true) (p : Pair) where
  pub never_consistent : consistent (header_of ns) p ≡ false
  unfolding consistent
  never_consistent = rw bad

  -- and so a state with such numbers is refused with STATE, where its region lies inside the lists
  pub refused_state : inside (get_or ns 0 0) (get_or ns 1 0) p ≡ true → state_of (header_of ns) p ≡ Err State
  unfolding state_of consistent
  refused_state i = rw (bad, i)
