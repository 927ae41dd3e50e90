use Rattle.std.proofs.Common.{◌≡◌, ◌++◌, ◌+◌, drop}
use Rattle.def_picture.specs.Svg.{session_svg}
use Rattle.def_picture.specs.Templates.{each_numbered}
use Rattle.tn_picture.proofs.svg.put_sessions.Given as goal

abbrev pub invariant-loop-place : goal.invariant-loop-place
invariant-loop-place g l =
    l.out.items ++ each_numbered session_svg (l.place + 1) (drop l.place l.sessions) ≡ l.fn.out.items ++ each_numbered session_svg 1 l.sessions
