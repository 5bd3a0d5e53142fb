-- Texts that are written one after the other are one text. Assumes nothing.
use Prim.Native.Nat.{ℕ, ◌+◌, ◌≤◌}
use native.Mathlib.Omega.{arith}
use mathlib.Core.List.{List, [], ◌++◌, append_assoc}
use mathlib.Core.Path.{◌≡◌, refl, sym, ap, ◌∙◌}
use lib.ListN.{length, take, drop, length-append, length-drop, take-append-drop}
use lib.Seq.{length-take-le, take_at, drop-append-add, drop-drop}
use Rattle.texts.specs.Lines.{Adds}
use Rattle.texts.specs.Puts.{Puts}
use Rattle.texts.specs.declared.Line.{Line}

pub puts_none : (at : ℕ) (o : List ℕ) → Puts [] at o at o
puts_none at o = record { after = omega arith; text = sym (take-append-drop at o) }

module _ {s t : List ℕ} {at r r₂ : ℕ} {o o₁ o₂ : List ℕ} where
  pub puts_both : at ≤ length o → Puts s at o r o₁ → Puts t r o₁ r₂ o₂ → Puts (s ++ t) at o r₂ o₂
  puts_both within p q = record { after = omega (arith, length-append s t, p.after, q.after); text = q.text ∙ rw (front, back) joined }
    where
      head : List ℕ
      head = take at o ++ s

      long : length head ≡ r
      long = length-append (take at o) s ∙ ap (λ (n : ℕ). n + length s) (length-take-le at o within) ∙ sym p.after

      split : o₁ ≡ head ++ drop r o
      split = p.text ∙ sym (append_assoc (take at o) s (drop r o))

      front : take r o₁ ≡ head
      front = ap (take r) split ∙ take_at head (drop r o) r long

      back : drop r₂ o₁ ≡ drop r₂ o
      back =
          ap (λ (l : List ℕ). drop r₂ l) split
          ∙ ap (λ (n : ℕ). drop n (head ++ drop r o)) (q.after ∙ ap (λ (n : ℕ). n + length t) (sym long))
          ∙ drop-append-add head (drop r o) (length t)
          ∙ drop-drop (length t) r o
          ∙ ap (λ (n : ℕ). drop n o) (sym q.after)

      joined : head ++ (t ++ drop r₂ o) ≡ take at o ++ (s ++ t ++ drop r₂ o)
      joined = append_assoc (take at o) s (t ++ drop r₂ o) ∙ ap (λ (l : List ℕ). take at o ++ l) (sym (append_assoc s t (drop r₂ o)))

-- the room that is left after a text of at most k bytes
pub room_after : {t o new : List ℕ} {at r : ℕ} (k n : ℕ) → Puts t at o r new → length t ≤ k → at + (k + n) ≤ length o → r + n ≤ length new
room_after {t} {o} {new} {at} {r} k n p short room =
    let same = simp length-append at (ap length p.text) in
    omega (arith, p.after, same, length-take-le at o (omega arith), length-drop r o)

-- the answer counts the bytes of a text that stands in front
module _ {t o new : List ℕ} {r : ℕ} (p : Puts t 0 o r new) where
  pub puts_within : r ≤ length new
  puts_within = omega (arith, p.after, simp length-append at (ap length p.text))

  pub puts_counted : r ≡ length (take r new)
  puts_counted = sym (length-take-le r new puts_within)

-- two outcomes that keep the promise are equal
pub one_puts : {t o new new' : List ℕ} {at r r' : ℕ} → Puts t at o r new → Puts t at o r' new' → (r ≡ r') × (new ≡ new')
one_puts {t} {o} {at = at} p q =
    let same = p.after ∙ sym q.after in
    (same, p.text ∙ ap (λ (n : ℕ). take at o ++ (t ++ drop n o)) same ∙ sym q.text)

-- ---- a line that is being written

pub adds_none : (l : Line) → Adds [] l l
adds_none l = record { same = refl; puts = puts_none l.at l.out.now }

pub adds_both : {s t : List ℕ} {a b c : Line} → a.at ≤ length a.out.now → Adds s a b → Adds t b c → Adds (s ++ t) a c
adds_both within p q = record { same = q.same ∙ p.same; puts = puts_both within p.puts q.puts }

-- the room that is left after a text of at most k bytes
pub adds_room : {t : List ℕ} {a b : Line} (k n : ℕ) → Adds t a b → length t ≤ k → a.at + (k + n) ≤ length a.out.now → b.at + n ≤ length b.out.now
adds_room k n p short room = room_after k n p.puts short room
