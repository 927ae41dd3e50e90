use Rattle.std.proofs.Common.{arith}
use Rattle.tn_answers.specs.AnswerViews.{session_name_seen}
use Rattle.tn_answers.proofs.Rows.{session_rows_more, all_sessions_rows}
use Rattle.tn_answers.proofs.listing_rows.put_sessions_rows.Goals as goal

pub loop-i-preserved : goal.loop-i-preserved
loop-i-preserved g c =
    let s = c.loop-i in
    session_rows_more session_name_seen g.L.Listing.listed c.args.sessions.now c.args.listings.now s.i c.index-sessions-i.result c.index-listings-i.result s.out.lines.items c.in_ok-out.out.lines.items _ (omega arith) (omega arith)
    c.index-sessions-i.is c.index-listings-i.is s.invariant c.in_ok-out.ensures

pub returns : goal.returns
returns g c =
    let s = c.loop-i in
    all_sessions_rows session_name_seen g.L.Listing.listed c.args.sessions.now c.args.listings.now s.i s.out.lines.items _ (omega arith) s.invariant
