use Rattle.std.proofs.Common.{◌<◌, ◌+◌, arith, refl, length, true, false}
use Rattle.tn_code.specs.Views.{instructions_of}
use Rattle.tn_code.proofs.Tests.{fine_there, all-more, fine-item, checked-fails}
use Rattle.tn_code.proofs.acceptance.is_checked.Goals as goal

pub returns-then-not-is_fine : goal.returns-then-not-is_fine
returns-then-not-is_fine g c =
    let l : c.loop-place.place < length c.args.items.now = omega (arith, c.loop-place-test.true) in
    checked-fails c.args.items.now c.loop-place.place l (fine-item c.args.items.now c.loop-place.place c.index-items-place.result false l c.index-items-place.is c.if-not-is_fine.ensures)

pub loop-place-preserved : goal.loop-place-preserved
loop-place-preserved g c =
    let l : c.loop-place.place < length c.args.items.now = omega (arith, c.loop-place-test.true) in
    all-more c.loop-place.place (c.loop-place.place + 1) (fine_there (instructions_of c.args.items.now)) refl c.loop-place.invariant
    (fine-item c.args.items.now c.loop-place.place c.index-items-place.result true l c.index-items-place.is c.if-not-is_fine.ensures)
