-- `entry` meets its contract: four texts, one after the other. Assumes nothing.
use Rattle.std.proofs.Common.{arith, false}
use Rattle.texts.proofs.Putting.{adds_both, adds_room}
use Rattle.texts.proofs.Spelling.{spelled_length}
use Rattle.texts.proofs.Line.entry.Goals as goal

pub put-requires-2 : goal.put-requires-2
put-requires-2 c =
    let space = adds_room 1 29 c.put.ensures (omega arith) (omega (arith, c.requires)) in
    omega (arith, adds_room 20 9 c.decimal.ensures (spelled_length 10 false 20 _) space)

pub number-requires : goal.number-requires
number-requires c =
    let space = adds_room 1 29 c.put.ensures (omega arith) (omega (arith, c.requires)) in
    let index = adds_room 20 9 c.decimal.ensures (spelled_length 10 false 20 _) space in
    (omega arith, omega arith, adds_room 1 8 c.put-2.ensures (omega arith) index)

pub returns : goal.returns
returns c = let within = c.requires in
    let index = adds_both (omega arith) c.put.ensures c.decimal.ensures in
    adds_both (omega arith) (adds_both (omega arith) index c.put-2.ensures) c.number.ensures
