-- A session with a reply.
use Rattle.def_term.specs.Tree.{Tree}
use Rattle.def_session.specs.State.{Session}
use Rattle.def_session.specs.Commands.{CommandResult}

abbrev pub with_reply : Session → Tree → CommandResult
with_reply s t = (s, t)
