-- `bvect::subvector` meets its contract: the bounds name a part of the vector, and the gathered words are the words of that part. Assumes nothing.
use Rattle.std.proofs.Common.{◌≡◌, ◌-◌, length, sym, arith, le-ltb}
use Rattle.refusal.specs.Answers.{Valid}
use Rattle.refusal.specs.Bounds.{start_of, end_of}
use Rattle.refusal.proofs.Told.{checked_told}
use Rattle.refusal.proofs.Spans.{span_part}
use Rattle.bits.specs.Bits.{words_for}
use Rattle.bits.specs.Vectors.{seen}
use Rattle.bits.specs.Calls.{checked_of}
use Rattle.bits.proofs.Checks.{sound}
use Rattle.bvect.proofs.Slices.{slice_writes}
use Rattle.bvect.proofs.subvector.Goals as goal

pub gather_all-requires : goal.gather_all-requires
gather_all-requires c = let a = c.args in
    let s = c.in-Some.span in
    let p = span_part a.from a.to a.v.dims s.start s.end (sym c.in-Some.ensures) in
    let whole = sound _ (sym (checked_told c.in_ok-check.ensures)) in
    record {
      some = omega (arith, p.rising);
      there = omega (arith, whole.long, p.within);
      size = c.words_for-len.ensures;
      room = omega arith;
    }

pub returns : goal.returns
returns c = let a = c.args in
    let s = c.in-Some.span in
    let passed : checked_of (seen a.v) ≡ Valid = sym (checked_told c.in_ok-check.ensures) in
    let p = span_part a.from a.to a.v.dims s.start s.end (sym c.in-Some.ensures) in
    let size = words_for (end_of a.v.dims a.to - start_of a.from) in
    let room = le-ltb (length a.out.now) size (omega (arith, p.starts, p.ends, c.words_for-len.ensures)) in
    slice_writes a.from a.to a.v.dims a.v.data.now p (rw (passed, p.fair, room)) c.words_for-len.ensures c.gather_all.ensures
