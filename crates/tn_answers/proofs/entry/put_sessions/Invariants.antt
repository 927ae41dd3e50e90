use Rattle.std.proofs.Common.{◌≡◌, ◌++◌}
use Rattle.tn_answers.specs.AnswerViews.{session_name_seen}
use Rattle.tn_answers.proofs.Parts.{texts_from}
use Rattle.tn_answers.proofs.entry.put_sessions.Given as goal

abbrev pub invariant-loop-i : goal.invariant-loop-i
invariant-loop-i g l = l.out.items ++ texts_from session_name_seen g.L.Listing.listed l.sessions l.listings l.i ≡ l.fn.out.items ++ texts_from session_name_seen g.L.Listing.listed l.sessions l.listings 0
