use Rattle.std.proofs.Common.{◌≡◌, ◌++◌, ◌+◌, drop}
use Rattle.def_picture.specs.JsonPicture.{name_line}
use Rattle.def_picture.specs.Templates.{each_numbered}
use Rattle.tn_picture.proofs.json_picture.put_names.Given as goal

abbrev pub invariant-loop-place : goal.invariant-loop-place
invariant-loop-place g l =
    l.out.lines.items ++ each_numbered name_line (l.place + 1) (drop l.place l.sessions) ≡ l.fn.out.lines.items ++ each_numbered name_line 1 l.sessions
