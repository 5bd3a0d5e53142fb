-- `exports_states::oxl_aggregate_row` meets its contract: it tells the answer and the header afterwards. Assumes nothing.
use Rattle.exports_states.proofs.oxl_aggregate_row.Goals as goal

pub returns : goal.returns
returns c = record { answer = (c.row-r.result, c.row-r.new.self); kept = (rw c.header_of-new.ensures at c.row-r.ensures); same = c.tell.ensures }
