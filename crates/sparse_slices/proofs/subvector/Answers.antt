-- `sparse_slices::subvector` meets its contract: the entries between the two places that the bounds name are those of the slice. Assumes nothing.
use Rattle.std.proofs.Common.{◌≡◌, sym, ◌∙◌, arith, ⊎_elim}
use Rattle.refusal.specs.Answers.{Valid}
use Rattle.refusal.proofs.Spans.{Part, span_part}
use Rattle.refusal.proofs.Told.{checked_told}
use Rattle.sparse.specs.Calls.{checked_of}
use Rattle.sparse.specs.Vectors.{seen}
use Rattle.sparse.specs.Sound.{Sound}
use Rattle.sparse.proofs.Checks.{sound}
use Rattle.sparse.proofs.Writes.{refused, room_indexes, room_values, room_enough}
use Rattle.sparse_slices.proofs.Cuts.{above, slice_size, slice_written}
use Rattle.sparse_slices.proofs.subvector.Goals as goal
use Rattle.sparse_slices.proofs.subvector.Goals.{In_ok-check, In_ok-span, After-partition_point-e}

-- the vector passed its tests
passed : (c : In_ok-check) → checked_of (seen c.args.v) ≡ Valid
passed c = sym (checked_told c.check.ensures) ∙ c.in_ok-check.was

whole : (c : In_ok-check) → Sound (seen c.args.v)
whole c = sound (seen c.args.v) (passed c)

-- the bounds name a part of it
part : (c : In_ok-span) → Part c.args.from c.args.to c.args.v.dims c.in_ok-span.span.start c.in_ok-span.span.end
part c = span_part _ _ _ _ _ (sym c.span_of.ensures ∙ c.in_ok-span.ensures.ok_part)

pub partition_point-s-requires : goal.partition_point-s-requires
partition_point-s-requires c = (whole (goal.at.partition_point-s-requires c).In_ok-check).rising

pub partition_point-e-requires : goal.partition_point-e-requires
partition_point-e-requires c = (whole (goal.at.partition_point-e-requires c).In_ok-check).rising

pub move_indexes-requires-clause-above : goal.move_indexes-requires-clause-above
move_indexes-requires-clause-above c =
    let t = goal.at.move_indexes-requires-clause-above c in
    above _ (whole t.In_ok-check) (part t.In_ok-span) c.partition_point-s.ensures c.partition_point-e.ensures

pub returns-then-oi-n : goal.returns-then-oi-n
returns-then-oi-n c =
    let t = goal.at.returns-then-oi-n c in
    let p = part t.In_ok-span in
    let size = slice_size _ (whole t.In_ok-check) p c.partition_point-s.ensures c.partition_point-e.ensures in
    refused _ (rw (passed t.In_ok-check, p.fair, size) (⊎_elim (room_indexes _ _ _) (λ g. room_values _ _ _ g.1) c.then-oi-n.either))

pub slice_bounds-copy-end : goal.slice_bounds-copy-end
slice_bounds-copy-end c = omega (arith, (whole (goal.at.slice_bounds-copy-end c).In_ok-check).even)

pub returns : goal.returns
returns c =
    let t = goal.at.returns c in
    let p = part t.In_ok-span in
    let s = whole t.In_ok-check in
    let size = slice_size _ s p c.partition_point-s.ensures c.partition_point-e.ensures in
    slice_written _ s p c.partition_point-s.ensures c.partition_point-e.ensures
    (rw (passed t.In_ok-check, p.fair, size) (room_enough _ _ _ c.if-oi-n.false c.if-ov-n.false))
    c.move_indexes.ensures
    c.copy.ensures
