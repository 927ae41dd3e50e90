use Rattle.std.proofs.Common.{◌∙◌, sym, ap}
use Rattle.def_session.specs.Commands.{receive_set}
use Rattle.tn_session.specs.Views.{state_seen, setting_seen}
use Rattle.tn_session.proofs.state.State.receive.Goals as goal

pub returns-in-Ok-clause-done : goal.returns-in-Ok-clause-done
returns-in-Ok-clause-done g c =
    let s = state_seen c.args.self.now in
    ap (receive_set s) c.in-Ok.ensures ∙ ap (λ r. (record s { receiving = setting_seen c.in-Ok.setting }, r)) (sym c.count_reply.ensures)
