-- The values are written one by one.
use Rattle.std.proofs.Common.{◌≡◌, length, sym, ◌∙◌, arith}
use mathlib.Core.List.{map}
use lib.ListN.{length-map, get_or-map}
use lib.Ieee.{binary32, of_bits}
use Rattle.places.proofs.Below.{list_all, wrote_none, wrote_more}
use Rattle.entry_bits.proofs.values.Goals as goal

pub loop-i-init : goal.loop-i-init
loop-i-init c = wrote_none

pub loop-i-preserved : goal.loop-i-preserved
loop-i-preserved c = let l = c.loop-i in
    let e = c.value.ensures ∙ sym (get_or-map (of_bits binary32) c.args.bits.now l.i 0) in
    wrote_more l.invariant (omega arith) e

pub returns : goal.returns
returns c = let l = c.loop-i in
    let bits = c.args.bits.now in
    let all : l.i ≡ length bits = omega arith in
    let many = length-map bits (of_bits binary32) in
    rw (all, sym many, list_all (map (of_bits binary32) bits) (of_bits binary32 0), many) at l.invariant.front
