use Rattle.std.proofs.Common.{◌∙◌, sym, ap}
use Rattle.def_session.specs.Commands.{send_set}
use Rattle.tn_session.specs.Views.{state_seen, setting_seen}
use Rattle.tn_session.proofs.state.State.send.Goals as goal

pub returns-in-Ok-clause-done : goal.returns-in-Ok-clause-done
returns-in-Ok-clause-done g c =
    let s = state_seen c.args.self.now in
    ap (send_set s) c.in-Ok.ensures ∙ ap (λ r. (record s { sending = setting_seen c.in-Ok.setting }, r)) (sym c.count_reply.ensures)
