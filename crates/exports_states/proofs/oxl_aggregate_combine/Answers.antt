-- `exports_states::oxl_aggregate_combine` meets its contract: it tells the answer and the header afterwards. Assumes nothing.
use Rattle.exports_states.proofs.oxl_aggregate_combine.Goals as goal

pub returns : goal.returns
returns c = record { answer = (c.combine-r.result, c.combine-r.new.self); kept = (rw (c.header_of-new.ensures, c.header_of.ensures) at c.combine-r.ensures); same = c.tell.ensures }
