-- `give` meets its contract: the answer of the merge decides. Assumes nothing.
use Rattle.std.proofs.Common.{refl}
use Rattle.entry_bits.specs.Operands.{lent}
use Rattle.session.proofs.Given.{Came, told_done}
use Rattle.session.proofs.operating.give.Goals as goal

-- what was merged is in front of the lists
pub returns-in-Ok : goal.returns-in-Ok
returns-in-Ok c =
    let a = c.args in
    let p = c.requires in
    let m = c.in-Ok.m in
    let k : Came a.op (lent a.a) (lent a.b) m.dims m.len c.join.new.oi c.join.new.ov =
    told_done a.op (lent a.a) (lent a.b) p.fit.few p.fit.few' p.values.0 p.values.1 _ _ refl refl c.join.ensures c.in-Ok.is in
    rw k.line (rw (k.indexes, k.values) at c.line.ensures)
