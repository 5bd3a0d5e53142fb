-- Where the entries of a state end. Assumes nothing.
use Rattle.std.proofs.Common.{◌+◌, ◌≤◌, length, arith}
use Rattle.regions.specs.Regions.{Pair}
use Rattle.aggregate_svecf32.specs.declared.Header.{Header}
use Rattle.aggregate_svecf32.proofs.Consistent.{Sure}

-- inside both lists
pub ends_inside : {h : Header} {p : Pair} → Sure h p → (h.start + h.len ≤ length p.indexes) × (h.start + h.len ≤ length p.values)
ends_inside s =
    let f = s.fair in
    let i = s.inside in
    (omega (arith, f.room, f.fits, i.indexes), omega (arith, f.room, f.fits, i.values))
