-- `bvect::get` meets its contract: the check, the index, the bit. Assumes nothing.
use Rattle.std.proofs.Common.{sym, arith}
use Rattle.refusal.proofs.Told.{checked_told}
use Rattle.bits.proofs.Checks.{sound}
use Rattle.bvect.proofs.get.Goals as goal

pub bit_at-requires : goal.bit_at-requires
bit_at-requires c = omega (arith, (sound _ (sym (checked_told c.in_ok-check.ensures))).long)
