use Rattle.std.proofs.Common.{◌≡◌, ◌+◌, ◌<◌, get_or, length, ap, ◌∙◌, arith, set}
use Rattle.std.proofs.lemmas.List.Edits.{paste_more}
use lib.Seq.{paste}
use Rattle.walks.proofs.copy.Goals as goal

pub loop-i-preserved : goal.loop-i-preserved
loop-i-preserved g c =
    let i = c.loop-i.i in
    let from = c.args.from.now in
    let to = c.args.to.now in
    let x = c.index-from-i.result in
    let asked = c.requires in
    let more = c.loop-i-test.true in
    let read : x ≡ get_or from i x = c.index-from-i.is in
    let here : i ≡ 0 + i = omega arith in
    ap (λ l. set l i x) c.loop-i.invariant
    ∙ ap (set (paste to 0 from i) i) read
    ∙ ap (λ k. set (paste to 0 from i) k (get_or from i x)) here
    ∙ paste_more to 0 from i x (omega arith) (omega arith)
