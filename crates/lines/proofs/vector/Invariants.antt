-- `vector` meets its contract. The loop's invariant: what is read so far, with the words left that were not given. Assumes nothing.
use Rattle.std.proofs.Common.{length, drop}
use Rattle.lines.specs.Lines.{words}
use Rattle.lines.proofs.Progress.{Progress}
use Rattle.lines.proofs.vector.Given as goal

abbrev pub invariant-loop-word : goal.invariant-loop-word
invariant-loop-word l = let ws = drop 1 (drop 1 (words l.s)) in
    Progress l.dims ws l.initial.room.indexes l.initial.room.bits (drop (length l.yielded) ws) l.len l.room.indexes l.room.bits
