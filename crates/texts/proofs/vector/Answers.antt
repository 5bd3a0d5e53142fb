-- `texts::vector` meets its contract: three texts, one after the other. Assumes nothing.
use Rattle.std.proofs.Common.{arith, ◌+◌, ◌*◌, length, false, rules}
use Rattle.texts.proofs.Putting.{adds_both, adds_room}
use Rattle.texts.proofs.Spelling.{spelled_length, entries_length}
use Rattle.texts.proofs.vector.Goals as goal

pub entries-requires : goal.entries-requires
entries-requires c = (c.requires.0, omega (arith, adds_room 20 (30 * length c.args.indexes.now + 1) c.decimal.ensures (spelled_length 10 false 20 _) (omega (arith, c.requires.1))))

pub put-requires : goal.put-requires
put-requires c =
    let dims = adds_room 20 (30 * length c.args.indexes.now + 1) c.decimal.ensures (spelled_length 10 false 20 _) (omega (arith, c.requires.1)) in
    omega (arith, adds_room (30 * length c.args.indexes.now) 1 c.entries.ensures (entries_length _ _) dims)

pub returns : goal.returns
returns c =
    let all = (adds_both (omega arith) (adds_both (omega arith) c.decimal.ensures c.entries.ensures) c.put.ensures).puts in
    search rules
