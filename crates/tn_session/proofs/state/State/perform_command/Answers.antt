use Rattle.std.proofs.Common.{◌∙◌, ap}
use Rattle.def_session.specs.Commands.{done_in}
use Rattle.tn_flags.specs.Views.{command_of}
use Rattle.tn_session.specs.Views.{phase_seen, state_seen}
use Rattle.tn_session.specs.Replies.{opening_in}
use Rattle.tn_session.proofs.state.State.perform_command.Goals as goal

pub returns-in_ok-live_command-in-Live-clause-done : goal.returns-in_ok-live_command-in-Live-clause-done
returns-in_ok-live_command-in-Live-clause-done g c = λ n.
    ap (λ p. done_in (phase_seen p) (opening_in c.args.self.now n) (state_seen c.args.self.now) (command_of c.args.command.now)) c.in-Live.is ∙ c.in_ok-live_command-in-Live.ensures.done n
