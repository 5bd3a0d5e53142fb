-- `number` meets its contract. The loop's invariant: the number so far fits, and with the digits left it stands for what the whole text
-- stands for. Assumes nothing.
use Rattle.std.proofs.Common.{◌≡◌, ◌≤◌, drop}
use Rattle.lines.specs.Numerals.{numeral_of}
use Rattle.lines.proofs.Numbers.{from}
use Rattle.lines.proofs.number.Given as goal

abbrev pub invariant-loop-c : goal.invariant-loop-c
invariant-loop-c l = (l.value ≤ 4294967295) × (numeral_of l.base l.s ≡ from l.base l.value (drop l.c-index l.s))
