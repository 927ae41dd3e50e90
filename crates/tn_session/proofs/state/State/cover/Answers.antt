use Rattle.std.proofs.Common.{◌∙◌, sym, ap, map}
use Rattle.def_session.specs.Commands.{number_term, matching_count}
use Rattle.tn_session.specs.Views.{state_seen, settings_seen, function_setting_seen}
use Rattle.tn_session.specs.Replies.{opening_in}
use Rattle.tn_session.proofs.Dones.{with_reply}
use Rattle.tn_session.proofs.state.State.cover.Goals as goal

pub returns-clause-done : goal.returns-clause-done
returns-clause-done g c = λ n.
    let s = state_seen c.args.self.now in
    let t = record s { functions = settings_seen c.set.new.self } in
    let count = matching_count (opening_in c.args.self.now n) (function_setting_seen c.args.setting) in
    ap (λ ks. with_reply (record s { functions = ks }) (number_term count)) (sym (ap (map function_setting_seen) c.in_ok-set.ensures.ok))
    ∙ ap (λ k. with_reply t (number_term k)) (sym (c.match_count-count.ensures.value n))
    ∙ ap (with_reply t) (sym c.count_reply.ensures)
