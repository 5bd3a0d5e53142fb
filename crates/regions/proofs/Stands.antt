-- The laws of regions: when they lie inside two lists, and what `Stands` says of a list that came back. Assumes nothing.
use Prim.Native.Nat.{ℕ, ◌+◌, ◌-◌, ◌≤◌}
use native.Mathlib.Nat.{add-zero, zero-add}
use native.Mathlib.Omega.{arith}
use mathlib.Core.Bool.{true}
use mathlib.Core.List.{List, [], ◌++◌}
use mathlib.Core.Path.{◌≡◌, refl, sym, ap, ap₂, ◌∙◌}
use lib.Dec.{leb}
use lib.ListN.{length, take, drop, length-append, length-take, length-drop, take-append-drop, drop_of_length-le}
use Rattle.std.proofs.lemmas.List.{append-nil}
use lib.Seq.{length-take-le, take-append-le, drop-append-le, drop-append-add, take_at, drop_at, take-add, drop-drop}
use borrow.Author.Tests.{leb-true, le-leb}
use Rattle.places.proofs.Below.{and_true}
use Rattle.regions.specs.Regions.{Pair, part, inside, Stands}

pub inside_both : (start n : ℕ) (p : Pair) → inside start n p ≡ true → (start + n ≤ length p.indexes) × (start + n ≤ length p.values)
inside_both start n p e =
    let t = and_true (leb (start + n) (length p.indexes)) (leb (start + n) (length p.values)) e in
    (leb-true (start + n) (length p.indexes) t.0, leb-true (start + n) (length p.values) t.1)

pub both_inside : (start n : ℕ) (p : Pair) → start + n ≤ length p.indexes → start + n ≤ length p.values → inside start n p ≡ true
both_inside start n p a b = rw (le-leb (start + n) (length p.indexes) a, le-leb (start + n) (length p.values) b)

-- what is left of a list whose part, k places from `start` on, was lent and came back as ys
abbrev pub lent {ℓ} : {A : Type ℓ} → ℕ → ℕ → List A → List A → List A
lent start k l ys = take start l ++ (ys ++ drop k (drop start l))

module _ {ℓ} {A : Type ℓ} where
  pub part_length : (start n : ℕ) (l : List A) → start + n ≤ length l → length (part start n l) ≡ n
  part_length start n l h = simp (length-take, length-drop) (omega arith)

  -- two lists that agree up to n and from n on
  pub all_same : (n : ℕ) (a b : List A) → take n a ≡ take n b → drop n a ≡ drop n b → a ≡ b
  all_same n a b e f = sym (take-append-drop n a) ∙ ap₂ ◌++◌ e f ∙ take-append-drop n b

  -- what is written in front does not reach what comes after
  pub past_front : (xs old : List A) (n at : ℕ) → length xs ≡ n → n ≤ at → drop at (xs ++ drop n old) ≡ drop at old
  past_front xs old n at e h =
      let s : at ≡ length xs + (at - n) = omega arith in
      let d : n + (at - n) ≡ at = omega arith in
      ap (λ (i : ℕ). drop i (xs ++ drop n old)) s
      ∙ drop-append-add xs (drop n old) (at - n)
      ∙ drop-drop (at - n) n old
      ∙ ap (λ (i : ℕ). drop i old) d

  -- it stands there, within any room for it
  pub stands_front : (xs old new : List A) (n room : ℕ) → new ≡ xs ++ drop n old → length xs ≡ n → n ≤ room → room ≤ length old
      → Stands 0 room xs old new
  stands_front xs old new n room e count fits long = rw e (record {
    long = simp (length-append, length-drop) (omega arith);
    before = refl;
    here = take_at xs (drop n old) (length xs) refl;
    after = rw zero-add (past_front xs old n room count fits);
  })

  -- what stands at the front of a part that was lent stands in the whole list
  pub stands_lent : {start k room : ℕ} {xs l ys : List A} → start + k ≤ length l → room ≤ k → length xs ≤ room
      → Stands 0 room xs (part start k l) ys → Stands start room xs l (lent start k l ys)
  stands_lent {start} {k} {room} {xs} {l} {ys} fits r h s =
      let begins : length (take start l) ≡ start = length-take-le start l (omega arith) in
      let long : length ys ≡ k = s.long ∙ part_length start k l fits in
      let rest : List A = drop k (drop start l) in
      let from : drop start (lent start k l ys) ≡ ys ++ rest = drop_at (take start l) (ys ++ rest) start begins in
      let after : drop room ys ≡ drop room (part start k l) = rw zero-add at s.after in
      record {
        long = simp (length-append, length-take, length-drop) (omega arith);
        before = take_at (take start l) (ys ++ rest) start begins;
        here = ap (take (length xs)) from ∙ take-append-le (length xs) ys rest (omega arith) ∙ s.here;
        after =
            sym (drop-drop room start (lent start k l ys)) ∙ ap (drop room) from ∙ drop-append-le room ys rest (omega arith)
            ∙ ap (λ (x : List A). x ++ rest) after
            ∙ sym (drop-append-le room (part start k l) rest (omega (arith, part_length start k l fits)))
            ∙ ap (drop room) (take-append-drop k (drop start l)) ∙ drop-drop room start l;
      }

  -- n entries that are copied to n places that were lent stand in the whole list
  pub copied_lent : (from n start k j : ℕ) (xs l : List A) {ys : List A} → from + n ≤ length xs → start + n ≤ length l → k ≡ n → j ≡ n
      → ys ≡ part from k xs → Stands start n (part from n xs) l (lent start j l ys)
  copied_lent from n start k j xs l {ys} there fits e f c =
      let m : length (part from n xs) ≡ n = part_length from n xs there in
      let h : length (part start n l) ≡ n = part_length start n l fits in
      let none : drop n (part start n l) ≡ [] = drop_of_length-le (part start n l) {i = n} (omega arith) in
      let d : ys ≡ part from n xs ++ drop n (part start n l) = rw e at c ∙ rw none (sym (append-nil (part from n xs))) in
      rw f (stands_lent fits (omega arith) (omega arith) (stands_front (part from n xs) (part start n l) ys n n d m (omega arith) (omega arith)))

  -- what stands in front of a list, and fills its room, is followed by what is left of it
  pub front_stands : {n : ℕ} {xs old new : List A} → length xs ≡ n → Stands 0 n xs old new → new ≡ xs ++ drop n old
  front_stands {n} {xs} {old} {new} e s =
      sym (take-append-drop n new) ∙ ap₂ ◌++◌ (rw e at s.here) (rw zero-add at s.after)

  -- two lists left by one call agree, but in the room after xs
  pub stands_one : {start room : ℕ} {xs old a b : List A} → Stands start room xs old a → Stands start room xs old b
      → (take (start + length xs) a ≡ take (start + length xs) b) × (drop (start + room) a ≡ drop (start + room) b)
  stands_one {start} {room} {xs} {old} {a} {b} p q = (
    take-add start (length xs) a ∙ ap₂ ◌++◌ (p.before ∙ sym q.before) (p.here ∙ sym q.here) ∙ sym (take-add start (length xs) b),
    p.after ∙ sym q.after,
  )

  -- and where xs fills the room they are equal
  pub stands_same : {start : ℕ} {xs old a b : List A} → Stands start (length xs) xs old a → Stands start (length xs) xs old b → a ≡ b
  stands_same {start} {xs} {old} {a} {b} p q = let s = stands_one p q in all_same (start + length xs) a b s.0 s.1

  -- there is such a list: xs is written, and nothing else changes
  pub stands_some : (start room : ℕ) (xs old : List A) → length xs ≤ room → start + room ≤ length old
      → Stands start room xs old (take start old ++ (xs ++ drop (start + length xs) old))
  stands_some start room xs old h l =
      let begins : length (take start old) ≡ start = length-take-le start old (omega arith) in
      let rest : List A = drop (start + length xs) old in
      let from : drop start (take start old ++ (xs ++ rest)) ≡ xs ++ rest = drop_at (take start old) (xs ++ rest) start begins in
      let k : ℕ = room - length xs in
      let e : length xs + k ≡ room = omega arith in
      let f : (start + length xs) + k ≡ start + room = omega arith in
      record {
        long = simp (length-append, length-take, length-drop) (omega arith);
        before = take_at (take start old) (xs ++ rest) start begins;
        here = ap (take (length xs)) from ∙ take_at xs rest (length xs) refl;
        after =
            sym (drop-drop room start (take start old ++ (xs ++ rest))) ∙ ap (drop room) from
            ∙ sym (ap (λ (n : ℕ). drop n (xs ++ rest)) e) ∙ drop-append-add xs rest k
            ∙ drop-drop k (start + length xs) old ∙ ap (λ (n : ℕ). drop n old) f;
      }

  -- a call that writes nothing leaves the list
  pub stands_none : {start : ℕ} {old new : List A} → Stands start 0 [] old new → new ≡ old
  stands_none {start} {old} {new} s = all_same start new old s.before (rw add-zero at s.after)

  pub none_stands : {start : ℕ} {l : List A} → Stands start 0 [] l l
  none_stands = record { long = refl; before = refl; here = refl; after = refl }
