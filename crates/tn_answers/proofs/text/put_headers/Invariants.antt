use Rattle.std.proofs.Common.{◌≡◌, ◌++◌, drop, flat_map}
use Rattle.tn_answers.specs.AnswerViews.{session_header}
use Rattle.tn_answers.proofs.text.put_headers.Given as goal

abbrev pub invariant-loop-session : goal.invariant-loop-session
invariant-loop-session g l = l.out.items ++ flat_map session_header (drop l.session-index l.sessions) ≡ l.fn.out.items ++ flat_map session_header l.sessions
