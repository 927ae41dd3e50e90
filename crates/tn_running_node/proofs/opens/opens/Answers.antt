use Rattle.std.proofs.Common.{◌≡◌, sym, subst}
use Rattle.std.specs.Prelude.{IfOk}
use Rattle.def_node.specs.Event.{Event, sent}
use Rattle.def_running_node.specs.NodeRuns.{opens}
use Rattle.tn_flags.specs.Views.{event_of}
use Rattle.tn_session.specs.Looks.{look_seen}
use Rattle.tn_running_node.proofs.opens.opens.Goals as goal

pub returns-in-Sent : goal.returns-in-Sent
returns-in-Sent g c =
    let a = c.in-Sent in
    let Holds : Event → Type 0 = λ e. IfOk c.send_opens.result (λ b. b ≡ opens (look_seen c.args.look.now) e) in
    subst (λ e. Holds (event_of e)) (sym a.is) (subst (λ t. Holds (sent a.pid t a.to a.alive)) c.term.ensures (c.send_opens.ensures a.alive))
