-- `Numbers::is_begun_fairly` meets its contract: each test that fails is one that fair numbers pass. Assumes nothing.
use Rattle.std.proofs.Common.{sym, ap, ◌∙◌, arith}
use borrow.Author.Tests.{eq-eqb}
use Rattle.refusal.proofs.Told.{checked_told}
use Rattle.sparse.specs.Calls.{checked_of}
use Rattle.headers.proofs.Tests.{entries_fair}
use Rattle.headers.proofs.Numbers.is_begun_fairly.Goals as goal

pub returns : goal.returns
returns c = let a = c.args.self in
    c.is_ok.ensures.value
    ∙ entries_fair c.args.length a.len a.capacity a.count _ (eq-eqb _ _ (sym c.capacity.ensures ∙ c.if-capacity-self.false))
    (omega arith) (omega arith) (omega arith) (omega arith) c.check.result
    (checked_told c.check.ensures ∙ ap checked_of c.vector.ensures)
