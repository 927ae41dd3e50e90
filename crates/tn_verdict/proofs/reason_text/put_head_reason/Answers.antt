use Rattle.std.proofs.Common.{suc, codes, decimal}
use Rattle.tn_verdict.proofs.Pieces.{after_ok}
use Rattle.tn_verdict.proofs.reason_text.put_head_reason.Goals as goal

pub returns-in_ok-write_next-in-AfterMatching-clause-ok : goal.returns-in_ok-write_next-in-AfterMatching-clause-ok
returns-in_ok-write_next-in-AfterMatching-clause-ok g c =
    rw c.in-AfterMatching.is
    (after_ok c.put_mismatch.result c.args.out.now.items (codes "the head doesn't match at element ") _ c.extend_from_slice-in-AfterMatching.new.self.items c.put_mismatch.new.out.items
    c.in_ok-extend_from_slice-in-AfterMatching.ensures.items
    (after_ok c.put_mismatch.result c.extend_from_slice-in-AfterMatching.new.self.items (decimal (suc c.in-AfterMatching.count)) _ c.write_next.new.out.items c.put_mismatch.new.out.items
    c.in_ok-write_next-in-AfterMatching.ensures.ok c.put_mismatch.ensures.ok))
