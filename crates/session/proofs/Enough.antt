-- Reading 12,289 bytes is enough: three lines have at most 4,096 bytes each, and one byte more tells whether a fourth follows.
-- Assumes nothing.
use Prim.Native.Nat.{ℕ, zero, suc, ◌-◌, ◌≤◌, ◌<◌, min}
use mathlib.Core.Bool.{Bool, true, false, and-false}
use mathlib.Core.List.{List, [], ◌∷◌}
use mathlib.Core.Logic.{◌⊎◌, inl, inr}
use mathlib.Core.Path.{◌≡◌, refl, ap, ◌∙◌}
use native.Mathlib.Omega.{arith}
use lib.Dec.{ltb}
use lib.ListN.{length, take, length-take}
use lib.Seq.{take-nil, take-take, take_all}
use borrow.Author.Tests.{lt-ltb, le-ltb, ltb-true, ltb-false}
use Rattle.std.specs.Prelude.{Option, Some, None}
use Rattle.merges.specs.declared.Op.{Op}
use Rattle.finding.specs.Finding.{index_of}
use Rattle.places.proofs.Below.{le_or_lt}
use Rattle.lines.specs.Lines.{Line, vector_line, bad_line, line_of, named_of}
use Rattle.reading.specs.Starts.{has_line, first_line, rest, first_vector, first_name}
use Rattle.session.specs.Sessions.{Session, session, session_of}
use Rattle.session.specs.Answers.{text_of, answer_of, ReadOf}
use Rattle.lines.proofs.Finding.{index_take, drop_take}
use Rattle.reading.proofs.Ends.{line_found}

-- ---- one line

ltb_min : (k n m : ℕ) → k < n → ltb k (min n m) ≡ ltb k m
ltb_min k n m h = go (ltb k m) refl
  where
    go : (b : Bool) → ltb k m ≡ b → ltb k (min n m) ≡ b
    go true e = lt-ltb k (min n m) (omega (arith, ltb-true k m e))
    go false e = le-ltb k (min n m) (omega (arith, ltb-false k m e))

module _ (n : ℕ) (s : List ℕ) (much : 4096 ≤ n) where
  has_cut : has_line (take n s) ≡ has_line s
  has_cut = go (ltb (index_of 10 s) 4096) refl
    where
      go : (b : Bool) → ltb (index_of 10 s) 4096 ≡ b → has_line (take n s) ≡ has_line s
      go true e =
          let near = ltb-true (index_of 10 s) 4096 e in
          let at : index_of 10 (take n s) ≡ index_of 10 s = omega (arith, near, index_take 10 n s) in
          let within : index_of 10 s < n = omega (arith, near) in
          rw (at, length-take n s, ltb_min (index_of 10 s) n (length s) within)
      go false e =
          let far = ltb-false (index_of 10 s) 4096 e in
          let cut : 4096 ≤ index_of 10 (take n s) = omega (arith, far, index_take 10 n s) in
          rw (e, le-ltb (index_of 10 (take n s)) 4096 cut) (simp and-false)

  module _ (has : has_line s ≡ true) where
    near : index_of 10 s < 4096
    near = (line_found s has).1

    at_cut : index_of 10 (take n s) ≡ index_of 10 s
    at_cut = omega (arith, near, index_take 10 n s)

    line_cut : first_line (take n s) ≡ first_line s
    line_cut = rw at_cut (take-take (index_of 10 s) n s (omega (arith, near)))

    rest_cut : rest (take n s) ≡ take (n - suc (index_of 10 s)) (rest s)
    rest_cut = rw at_cut (drop_take (suc (index_of 10 s)) n s)

-- ---- three lines, and no more

-- what is read from the third line on, from the second, and from the first
abbrev from_third : Line → Line → List ℕ → Session
from_third a b s = session a b (first_name s) (rest s)

abbrev from_second : Line → List ℕ → Session
from_second a s = session a (first_vector s) (first_name (rest s)) (rest (rest s))

any_extra : (m : ℕ) (a b : Line) (n : Option Op) (s : List ℕ) → 1 ≤ m → session a b n (take m s) ≡ session a b n s
any_extra m a b n [] h = rw take-nil
any_extra zero a b n (x ∷ s) h = absurd (omega arith)
any_extra (suc m) bad_line b n (x ∷ s) h = refl
any_extra (suc m) (vector_line d is bs) bad_line n (x ∷ s) h = refl
any_extra (suc m) (vector_line d is bs) (vector_line e js cs) None (x ∷ s) h = refl
any_extra (suc m) (vector_line d is bs) (vector_line e js cs) (Some op) (x ∷ s) h = refl

-- after a bad line the rest does not matter
bad_third : (a b : Line) (s t : List ℕ) → session a b None s ≡ session a b None t
bad_third bad_line b s t = refl
bad_third (vector_line d is bs) bad_line s t = refl
bad_third (vector_line d is bs) (vector_line e js cs) s t = refl

bad_second : (a : Line) (n m : Option Op) (s t : List ℕ) → session a bad_line n s ≡ session a bad_line m t
bad_second bad_line n m s t = refl
bad_second (vector_line d is bs) n m s t = refl

third : (a b : Line) (n : ℕ) (s : List ℕ) → 4097 ≤ n → from_third a b (take n s) ≡ from_third a b s
third a b n s h = go (has_line s) refl
  where
    much : 4096 ≤ n
    much = omega arith

    go : (t : Bool) → has_line s ≡ t → from_third a b (take n s) ≡ from_third a b s
    go true e =
        rw (has_cut n s much, e, line_cut n s much e, rest_cut n s much e)
        (any_extra (n - suc (index_of 10 s)) a b (named_of (first_line s)) (rest s) (omega (arith, near n s much e)))
    go false e = rw (has_cut n s much, e) (bad_third a b (rest (take n s)) (rest s))

second : (a : Line) (n : ℕ) (s : List ℕ) → 8193 ≤ n → from_second a (take n s) ≡ from_second a s
second a n s h = go (has_line s) refl
  where
    much : 4096 ≤ n
    much = omega arith

    go : (t : Bool) → has_line s ≡ t → from_second a (take n s) ≡ from_second a s
    go true e =
        rw (has_cut n s much, e, line_cut n s much e, rest_cut n s much e)
        (third a (line_of (first_line s)) (n - suc (index_of 10 s)) (rest s) (omega (arith, near n s much e)))
    go false e = rw (has_cut n s much, e) (bad_second a (first_name (rest (take n s))) (first_name (rest s)) (rest (rest (take n s))) (rest (rest s)))

-- bytes after the first 12,289 do not matter
pub enough : (s : List ℕ) (n : ℕ) → 12289 ≤ n → session_of (take n s) ≡ session_of s
enough s n h = go (has_line s) refl
  where
    much : 4096 ≤ n
    much = omega arith

    go : (t : Bool) → has_line s ≡ t → session_of (take n s) ≡ session_of s
    go true e =
        rw (has_cut n s much, e, line_cut n s much e, rest_cut n s much e)
        (second (line_of (first_line s)) (n - suc (index_of 10 s)) (rest s) (omega (arith, near n s much e)))
    go false e = rw (has_cut n s much, e)

-- so what was read of an input decides what is printed for it
pub front_answers : (space s : List ℕ) (n : ℕ) → 12289 ≤ length space → ReadOf s space n → answer_of (take n space) ≡ answer_of s
unfolding answer_of
front_answers space s n room h = ap text_of (ap session_of h.bytes ∙ go (le_or_lt (length s) (length space)))
  where
    go : (length s ≤ length space) ⊎ (length space < length s) → session_of (take n s) ≡ session_of s
    go (inl l) = ap session_of (take_all n s (omega (arith, h.count)))
    go (inr l) = enough s n (omega (arith, h.count))
