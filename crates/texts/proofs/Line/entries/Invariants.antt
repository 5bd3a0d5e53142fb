-- `entries` meets its contract. The loop's invariant: so many entries are written as were taken. Assumes nothing.
use Rattle.std.proofs.Common.{◌≤◌, length, take}
use Rattle.texts.specs.Lines.{Adds}
use Rattle.texts.specs.Texts.{entries_text}
use Rattle.texts.proofs.Line.entries.Given as goal

abbrev pub invariant-loop-index : goal.invariant-loop-index
invariant-loop-index l = let n = length l.yielded in
    (n ≤ length l.indexes) × Adds (entries_text (take n l.indexes) (take n l.bits)) l.initial.self l.self
