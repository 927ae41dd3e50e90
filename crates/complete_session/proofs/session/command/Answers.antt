use Rattle.std.proofs.Common.{ℕ}
use Rattle.def_term.specs.Tree.{Tree}
use Rattle.def_session.specs.State.{Session}
use Rattle.def_session.specs.Commands.{command_done}
use Rattle.tn_term.specs.Views.{tree_of}
use Rattle.tn_flags.specs.Views.{command_of}
use Rattle.tn_session.specs.Sessions.{SessionValue, value_in, exports_in}
use Rattle.complete_session.proofs.Same.{same_given, of_any}
use Rattle.complete_session.proofs.session.command.Goals as goal

pub returns-clause-reply : goal.returns-clause-reply
returns-clause-reply g c =
    let done : ℕ → SessionValue → Session × Tree = λ n s. command_done (exports_in s n) s.state (command_of c.args.command.now) in
    same_given tree_of (value_in c.args.one.now) (done 0) _ _ _ _ (of_any tree_of (value_in c.args.one.now) done _ _ c.command-first.ensures.done)
    (of_any tree_of (value_in c.args.one.now) done _ _ (rw (← c.requires.sessions, ← c.requires.commands) at c.command-second.ensures.done))
