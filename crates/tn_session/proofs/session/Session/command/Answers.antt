use Rattle.std.proofs.Common.{◌≡◌, ℕ}
use Rattle.def_session.specs.Commands.{command_done}
use Rattle.tn_term.specs.Views.{tree_of}
use Rattle.tn_flags.specs.Views.{command_of}
use Rattle.tn_session.specs.Sessions.{exports_in, next_session}
use Rattle.tn_session.proofs.CallLemmas.{where_there, next_there}
use Rattle.tn_session.proofs.session.Session.command.Goals as goal

pub returns-in-Ok-clause-done : goal.returns-in-Ok-clause-done
returns-in-Ok-clause-done g c =
    where_there (λ v s. (n : ℕ) → next_session s (command_done (exports_in s n) s.state (command_of c.args.command.now)) ≡ (v, tree_of c.in-Ok.reply))
    _ c.args.self.now.state c.command.new.self c.if-self.false
    (λ n. next_there c.args.self.now.state c.command.new.self _ _ (c.in-Ok.ensures.done n) c.in-Ok.ensures.functions)
