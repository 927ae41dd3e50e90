use Rattle.std.proofs.Common.{◌≡◌, ◌++◌}
use Rattle.tn_answers.specs.AnswerViews.{session_name_seen}
use Rattle.tn_answers.proofs.Rows.{rows_from}
use Rattle.tn_answers.proofs.listing_rows.put_sessions_rows.Given as goal

abbrev pub invariant-loop-i : goal.invariant-loop-i
invariant-loop-i g l = l.out.lines.items ++ rows_from session_name_seen g.L.Listing.listed l.sessions l.listings l.i ≡ l.fn.out.lines.items ++ rows_from session_name_seen g.L.Listing.listed l.sessions l.listings 0
