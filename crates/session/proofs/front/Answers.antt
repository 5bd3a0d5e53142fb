-- `front` meets its contract: what was read of an input decides what is printed for it. Assumes nothing.
use mathlib.Core.Path.{sym}
use lib.Seq.{take_all}
use Rattle.session.proofs.Enough.{front_answers}
use Rattle.session.proofs.front.Goals as goal

pub returns : goal.returns
returns c = let a = c.args in
    let room = c.requires in
    let all = take_all a.n a.s.now c.if-n-s.false in
    record {
      puts = rw all c.answer-2.ensures;
      front = λ s h. rw (sym (front_answers a.s.now s a.n room h), all) c.answer-2.ensures;
    }
