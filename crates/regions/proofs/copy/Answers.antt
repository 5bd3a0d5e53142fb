-- `regions::copy` meets its contract: each list is copied, from a part that was lent to another. Assumes nothing.
use Rattle.std.proofs.Common.{◌-◌, ◌+◌}
use native.Mathlib.Nat.{add-sub_cancel_left}
use Rattle.regions.proofs.Stands.{copied_lent}
use Rattle.regions.proofs.copy.Goals as goal

pub returns : goal.returns
returns c = let a = c.args in
    let k = (a.from + a.n) - a.from in
    let j = (a.to + a.n) - a.to in
    let e = add-sub_cancel_left a.from a.n in
    let f = add-sub_cancel_left a.to a.n in
    let r = c.requires in
    record {
      indexes = copied_lent a.from a.n a.to k j a.lists.indexes.now a.ci.now r.indexes r.room e f c.copy.ensures;
      values = copied_lent a.from a.n a.to k j a.lists.values.now a.cv.now r.values r.room' e f c.copy-2.ensures;
    }
