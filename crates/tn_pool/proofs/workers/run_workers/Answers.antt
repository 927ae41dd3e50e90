use Rattle.std.proofs.Common.{rules, arith, ◌≡◌, length, ap, ◌*◌}
use Rattle.tn_pool.proofs.Reports.{run_reports, run_count, run_endings}
use Rattle.tn_pool.proofs.workers.run_workers.Goals as goal

pub unpack-requires-clause-room : goal.unpack-requires-clause-room
unpack-requires-clause-room g c =
    let n : c.pack.new.members.len ≡ length c.pack.new.members.items = search rules in
    let k : c.pack.new.members.len ≡ c.len-count.result = search rules in
    let few = run_count _ _ _ _ _ _ c.pack.ensures.new c.as_mut_slice.ensures.value c.run_all.ensures.length c.run_all.ensures.each n in
    let room = c.in-Ok-empty_report.ensures.room in
    record { seats = omega (arith, room.seats, k); receipts = omega (arith, room.receipts, few, ap (λ y. y * c.args.turns) k); tokens = omega (arith, room.tokens, k) }

pub returns-clause-reports : goal.returns-clause-reports
returns-clause-reports g c =
    let n : c.pack.new.members.len ≡ length c.pack.new.members.items = search rules in
    run_reports _ _ _ _ _ _ _ _ _ c.pack.ensures.seats c.pack.ensures.new c.as_mut_slice.ensures.value c.run_all.ensures.length c.run_all.ensures.each n c.unpack.ensures.seats c.unpack.ensures.receipts

pub returns-clause-endings : goal.returns-clause-endings
returns-clause-endings g c =
    let n : c.pack.new.members.len ≡ length c.pack.new.members.items = search rules in
    let k : c.pack.new.members.len ≡ length c.args.seats.items = search rules in
    run_endings _ _ _ _ _ _ _ _ c.pack.ensures.new c.as_mut_slice.ensures.value c.run_all.ensures.length c.run_all.ensures.each n k c.unpack.ensures.receipts c.unpack.ensures.tokens c.unpack.ensures.fault
