-- `texts::refused` meets its contract: five texts, one after the other. Assumes nothing.
use Rattle.std.proofs.Common.{arith, false, rules}
use Rattle.texts.proofs.Putting.{adds_both, adds_room}
use Rattle.texts.proofs.Spelling.{spelled_length}
use Rattle.texts.proofs.refused.Goals as goal

pub put-requires : goal.put-requires
put-requires c =
    let word = adds_room 8 42 c.text.ensures (omega arith) (omega (arith, c.requires)) in
    omega (arith, adds_room 20 22 c.decimal.ensures (spelled_length 10 false 20 _) word)

pub decimal-requires-2 : goal.decimal-requires-2
decimal-requires-2 c =
    let word = adds_room 8 42 c.text.ensures (omega arith) (omega (arith, c.requires)) in
    let number = adds_room 20 22 c.decimal.ensures (spelled_length 10 false 20 _) word in
    omega (arith, adds_room 1 21 c.put.ensures (omega arith) number)

pub put-requires-2 : goal.put-requires-2
put-requires-2 c =
    let word = adds_room 8 42 c.text.ensures (omega arith) (omega (arith, c.requires)) in
    let number = adds_room 20 22 c.decimal.ensures (spelled_length 10 false 20 _) word in
    let space = adds_room 1 21 c.put.ensures (omega arith) number in
    omega (arith, adds_room 20 1 c.decimal-2.ensures (spelled_length 10 false 20 _) space)

pub returns : goal.returns
returns c =
    let first = adds_both (omega arith) c.text.ensures c.decimal.ensures in
    let second = adds_both (omega arith) (adds_both (omega arith) first c.put.ensures) c.decimal-2.ensures in
    let all = (adds_both (omega arith) second c.put-2.ensures).puts in
    search rules
