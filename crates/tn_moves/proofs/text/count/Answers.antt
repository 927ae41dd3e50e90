use Rattle.std.proofs.Common.{subst, refl}
use Rattle.tn_moves.specs.Readings.{IsNumberRead}
use Rattle.tn_moves.proofs.Readings.{no_large_count}
use Rattle.tn_moves.proofs.text.count.Goals as goal

pub returns-then-count-ge65536 : goal.returns-then-count-ge65536
returns-then-count-ge65536 g c =
    let read = subst (IsNumberRead _) c.in-Some.is c.in_ok-count.ensures in
    no_large_count c.args.text.now _ c.in-len1-up.len_at_least refl c.in-Some.count read.0 read.1 c.if-count-ge65536.true
