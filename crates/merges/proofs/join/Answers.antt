-- `merges::join` meets its contract: the tests of two vectors, then the room, then what they give is written. Assumes nothing.
use Rattle.std.proofs.Common.{◌≡◌, sym, ◌∙◌, arith}
use Rattle.refusal.specs.Answers.{Valid}
use Rattle.refusal.proofs.Told.{checked_told}
use Rattle.refusal.proofs.Chains.{differ_valid}
use Rattle.sparse.specs.Vectors.{seen}
use Rattle.sparse.specs.Calls.{each_of, pair_of}
use Rattle.sparse.proofs.Checks.{each_sound, sizes_most}
use Rattle.merges.proofs.join.Goals as goal
use Rattle.merges.proofs.join.Goals.{In_ok-check_pair}

-- both vectors passed, and have equal dims
passed : (c : In_ok-check_pair) → pair_of (seen c.args.a) (seen c.args.b) ≡ Valid
passed c = sym (checked_told c.check_pair.ensures) ∙ c.in_ok-check_pair.was

pub room_for-room-requires : goal.room_for-room-requires
room_for-room-requires c =
    let v = differ_valid (each_of (seen c.args.a) (seen c.args.b)) c.args.a.dims c.args.b.dims (passed c) in
    let s = each_sound (seen c.args.a) (seen c.args.b) v.0 in
    sizes_most s.0 s.1

pub write-len-requires : goal.write-len-requires
write-len-requires c =
    let t = (goal.at.write-len-requires c).In_ok-check_pair in
    let v = differ_valid (each_of (seen t.args.a) (seen t.args.b)) t.args.a.dims t.args.b.dims (passed t) in
    let s = each_sound (seen t.args.a) (seen t.args.b) v.0 in
    let e = c.room_for-room.ensures in
    record { left = s.0; right = s.1; same = v.1; room = omega (arith, e); room' = omega (arith, e) }
