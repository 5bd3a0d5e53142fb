-- `exports_states::oxl_aggregate_move_to` meets its contract: it tells the answer and the header afterwards. Assumes nothing.
use Rattle.exports_states.proofs.oxl_aggregate_move_to.Goals as goal

pub returns : goal.returns
returns c = record { answer = (c.move_to-r.result, c.move_to-r.new.self); kept = (rw c.header_of-new.ensures at c.move_to-r.ensures); same = c.tell.ensures }
