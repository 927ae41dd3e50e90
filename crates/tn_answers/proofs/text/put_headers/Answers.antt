use Rattle.std.proofs.Common.{arith}
use Rattle.tn_answers.specs.AnswerViews.{session_header}
use Rattle.tn_answers.proofs.Parts.{part_more}
use Rattle.tn_answers.proofs.text.put_headers.Goals as goal

pub loop-session-preserved : goal.loop-session-preserved
loop-session-preserved g c =
    let s = c.loop-session in
    part_more (session_header {A = g.row.A.Denot}) c.args.sessions.now s.session-index c.session-item.result s.out.items c.put_header.new.out.items _ (omega arith) c.session-item.is s.invariant c.in_ok-put_header.ensures
