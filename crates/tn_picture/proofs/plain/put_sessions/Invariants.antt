use Rattle.std.proofs.Common.{◌≡◌, ◌++◌, ◌+◌, drop}
use Rattle.def_picture.specs.Plain.{session_plain}
use Rattle.def_picture.specs.Templates.{each_numbered}
use Rattle.tn_picture.proofs.plain.put_sessions.Given as goal

abbrev pub invariant-loop-place : goal.invariant-loop-place
invariant-loop-place g l =
    l.out.items ++ each_numbered session_plain (l.place + 1) (drop l.place l.sessions) ≡ l.fn.out.items ++ each_numbered session_plain 1 l.sessions
