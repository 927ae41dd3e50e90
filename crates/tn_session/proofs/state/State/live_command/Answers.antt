use Rattle.std.proofs.Common.{◌∙◌, sym, ap}
use Rattle.def_term.specs.Names.{word}
use Rattle.def_session.specs.Commands.{done_live}
use Rattle.tn_flags.specs.Views.{command_of}
use Rattle.tn_session.specs.Views.{state_seen}
use Rattle.tn_session.specs.Replies.{opening_in}
use Rattle.tn_session.proofs.Dones.{with_reply}
use Rattle.tn_session.proofs.state.State.live_command.Goals as goal

pub returns-in-SessionDestroy-clause-done : goal.returns-in-SessionDestroy-clause-done
returns-in-SessionDestroy-clause-done g c = λ n.
    ap (λ k. done_live (opening_in c.args.self.now n) (state_seen c.args.self.now) (command_of k)) c.in-SessionDestroy.is ∙ ap (λ s. with_reply s (word "true")) (sym c.destroy.ensures.done)

pub returns-in-Process-clause-done : goal.returns-in-Process-clause-done
returns-in-Process-clause-done g c = λ n.
    ap (λ k. done_live (opening_in c.args.self.now n) (state_seen c.args.self.now) (command_of k)) c.in-Process.is ∙ c.process.ensures.done

pub returns-in_ok-function-in-Function-clause-done : goal.returns-in_ok-function-in-Function-clause-done
returns-in_ok-function-in-Function-clause-done g c = λ n.
    ap (λ k. done_live (opening_in c.args.self.now n) (state_seen c.args.self.now) (command_of k)) c.in-Function.is ∙ c.in_ok-function-in-Function.ensures.done n

pub returns-in_ok-send-in-Send-clause-done : goal.returns-in_ok-send-in-Send-clause-done
returns-in_ok-send-in-Send-clause-done g c = λ n.
    ap (λ k. done_live (opening_in c.args.self.now n) (state_seen c.args.self.now) (command_of k)) c.in-Send.is ∙ c.in_ok-send-in-Send.ensures.done

pub returns-in_ok-receive-in-Recv-clause-done : goal.returns-in_ok-receive-in-Recv-clause-done
returns-in_ok-receive-in-Recv-clause-done g c = λ n.
    ap (λ k. done_live (opening_in c.args.self.now n) (state_seen c.args.self.now) (command_of k)) c.in-Recv.is ∙ c.in_ok-receive-in-Recv.ensures.done
