-- One entry more, which the indexes and the bits have at the same place.
use Rattle.std.proofs.Common.{arith, ◌*◌, length, length-append, take, [], ◌∷◌, refl, sym, rules, Some, length-take-le}
use Rattle.std.proofs.lemmas.Slice.Zip.{zip_turn}
use Rattle.texts.proofs.Putting.{adds_none, adds_both, adds_room}
use Rattle.texts.proofs.Spelling.{entries_length, entries_none, entries_more}
use Rattle.texts.proofs.Line.entries.Goals as goal

pub loop-index-init : goal.loop-index-init
loop-index-init c = (omega arith, rw (entries_none []) (adds_none _))

pub entry-requires : goal.entry-requires
entry-requires c =
    let l = c.loop-index in
    let t = zip_turn c.args.indexes.now c.args.bits.now l.yielded _ _ c.next.new.self (Some _) (search rules) (search rules)
    l.yielded_by (c.in-Some.index, c.in-Some.pattern) refl c.in-Some.ensures.steps in
    let n = length l.yielded in
    let long = entries_length (take n c.args.indexes.now) (take n c.args.bits.now) in
    let most = length-take-le n c.args.indexes.now l.invariant.0 in
    adds_room (30 * n) 30 l.invariant.1 (omega (arith, long, most)) (omega (arith, c.requires.1, t.0))

pub loop-index-preserved : goal.loop-index-preserved
loop-index-preserved c =
    let l = c.loop-index in
    let t = zip_turn c.args.indexes.now c.args.bits.now l.yielded _ _ c.next.new.self (Some _) (search rules) (search rules)
    l.yielded_by (c.in-Some.index, c.in-Some.pattern) refl c.in-Some.ensures.steps in
    let more = entries_more c.args.indexes.now c.args.bits.now (length l.yielded) t.0 t.1 in
    let one = length-append l.yielded ((c.in-Some.index, c.in-Some.pattern) ∷ []) in
    let all = adds_both (omega (arith, c.requires.1)) l.invariant.1 c.entry.ensures in
    (omega (arith, one, t.0), rw (one, sym more, sym (t.2 0), sym (t.3 0)) all)
