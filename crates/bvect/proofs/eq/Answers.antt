-- `bvect::eq` meets its contract: the checks, the dims, the words. Assumes nothing.
use Rattle.std.proofs.Common.{sym}
use Rattle.refusal.proofs.Told.{checked_told}
use Rattle.bits.proofs.Pairs.{each_sound, pair_of_lem, alike}
use Rattle.bvect.proofs.eq.Goals as goal

pub same_words-requires : goal.same_words-requires
same_words-requires c = alike (pair_of_lem (each_sound _ _ (sym (checked_told c.in_ok-check_each.ensures))) c.if-a-b.true)
