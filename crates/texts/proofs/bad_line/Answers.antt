-- `texts::bad_line` meets its contract: three texts, one after the other. Assumes nothing.
use Rattle.std.proofs.Common.{arith, false, rules}
use Rattle.texts.proofs.Putting.{adds_both, adds_room}
use Rattle.texts.proofs.Spelling.{spelled_length}
use Rattle.texts.proofs.bad_line.Goals as goal

pub put-requires : goal.put-requires
put-requires c =
    let words = adds_room 9 21 c.text.ensures (omega arith) (omega (arith, c.requires)) in
    omega (arith, adds_room 20 1 c.decimal.ensures (spelled_length 10 false 20 _) words)

pub returns : goal.returns
returns c =
    let all = (adds_both (omega arith) (adds_both (omega arith) c.text.ensures c.decimal.ensures) c.put.ensures).puts in
    search rules
