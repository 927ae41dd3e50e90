use Rattle.std.proofs.Common.{arith}
use Rattle.tn_answers.specs.AnswerViews.{session_name_seen}
use Rattle.tn_answers.proofs.Parts.{session_more, all_sessions}
use Rattle.tn_answers.proofs.entry.put_sessions.Goals as goal

pub loop-i-preserved : goal.loop-i-preserved
loop-i-preserved g c =
    let s = c.loop-i in
    session_more session_name_seen g.L.Listing.listed c.args.sessions.now c.args.listings.now s.i c.index-sessions-i.result c.index-listings-i.result s.out.items c.put_header.new.out.items c.put_lines.new.out.items _ (omega arith) (omega arith)
    c.index-sessions-i.is c.index-listings-i.is s.invariant c.in_ok-put_header.ensures c.in_ok-put_lines.ensures

pub returns : goal.returns
returns g c =
    let s = c.loop-i in
    all_sessions session_name_seen g.L.Listing.listed c.args.sessions.now c.args.listings.now s.i s.out.items _ (omega arith) s.invariant
