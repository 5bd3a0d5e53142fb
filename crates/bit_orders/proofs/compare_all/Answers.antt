use Rattle.std.proofs.Common.{arith}
use Rattle.bit_orders.proofs.Orders.{words_decide, words_equal}
use Rattle.bit_orders.proofs.compare_all.Goals as goal

pub returns-then-x-y : goal.returns-then-x-y
returns-then-x-y c = let a = c.args in
    let i = c.loop-i.i in
    rw (words_decide a.a.now a.b.now i (c.type_inv.a i).fits (c.type_inv.b i).fits c.if-x-y.true (omega arith) c.loop-i.invariant) c.compare_words.ensures

pub returns : goal.returns
returns c = let a = c.args in
    rw (words_equal a.a.now a.b.now (λ j h. c.loop-i.invariant j (omega arith)))
