use Rattle.tn_verdict.proofs.Pieces.{grown_or_not}
use Rattle.tn_verdict.proofs.spec_test.put_end.Goals as goal

pub returns-then-is_silent-clause-grows : goal.returns-then-is_silent-clause-grows
returns-then-is_silent-clause-grows g c = grown_or_not c.extend_from_slice.result c.args.out.now.items _ c.extend_from_slice.new.self.items c.extend_from_slice.ensures.items
