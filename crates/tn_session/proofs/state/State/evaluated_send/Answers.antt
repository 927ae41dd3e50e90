use Rattle.std.proofs.Common.{◌∙◌, None, ap}
use Rattle.def_spec.specs.Flags.{send_flag}
use Rattle.def_session.specs.Session.{context, evaluated_by}
use Rattle.tn_session.specs.Views.{setting_seen, state_seen}
use Rattle.tn_session.proofs.Evaluations.{is_set, list_of_send}
use Rattle.tn_session.proofs.state.State.evaluated_send.Goals as goal

pub returns : goal.returns
returns g c = λ b.
    let s = state_seen c.args.self.now in
    is_set s c.args.pid send_flag c.flags_at.result _ _ c.flags_at.ensures c.if-not-flags_at.false
    (c.in_ok-evaluated_values.ensures ∙ ap (λ ts. evaluated_by (setting_seen c.args.self.now.sending) (context s c.args.pid ts None)) (list_of_send c.args.to c.args.message))
