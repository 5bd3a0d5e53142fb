-- One digit alone, or the last digit after the others.
use Rattle.std.proofs.Common.{arith, ◌-◌, ◌⊎◌, inl, inr, ◌≡◌, ◌≤◌, false, not, sym, ap}
use Rattle.texts.proofs.Putting.{adds_none, adds_both, adds_room}
use Rattle.texts.proofs.Spelling.{spelled_none, spelled_one, spelled_more, spelled_length}
use Rattle.texts.proofs.Line.+number.Goals as goal
use Rattle.texts.proofs.Line.+number.Goals.{else-n-base-via-then-n-base+else-not-padded, else-n-base-via-else-n-base}

pub returns-then-k-eq0 : goal.returns-then-k-eq0
returns-then-k-eq0 t c = rw (spelled_none _ _ _ _ c.if-k-eq0.true) (adds_none _)

-- one digit
pub returns-then-not-padded : goal.returns-then-not-padded
returns-then-not-padded t c =
    let a = c.args in
    rw (spelled_one a.base a.padded a.n a.k (omega arith) c.if-n-base.true (ap not c.if-not-padded.true), sym c.glyph.ensures) c.put.ensures

pub put-requires-2 : goal.put-requires-2
put-requires-2 t c = let room = c.requires.2 in
    omega (arith, adds_room (c.args.k - 1) 1 c.number.ensures (spelled_length _ _ _ _) (omega arith))

-- the last digit after the others
pub returns : goal.returns
returns t c =
    let a = c.args in
    let room = c.requires.2 in
    let large : (not a.padded ≡ false) ⊎ (a.base ≤ a.n) =
    elim c.else-n-base.branch [
      | else-n-base-via-then-n-base+else-not-padded w ↦ inl (ap not w.if-not-padded.false)
      | else-n-base-via-else-n-base w ↦ inr w.if-n-base.false
    ] in
    rw (spelled_more a.base a.padded a.n a.k (omega arith) large, sym c.glyph-2.ensures)
    (adds_both (omega arith) c.number.ensures c.put-2.ensures)
