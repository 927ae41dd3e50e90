use Rattle.std.proofs.Common.{◌∙◌, sym, ap}
use Rattle.std.specs.Option.{option_map}
use Rattle.tn_flags.specs.Views.{call_seen}
use Rattle.tn_session.specs.Views.{function_setting_seen, settings_seen}
use Rattle.tn_session.specs.Newest.{setting_of_command}
use Rattle.tn_session.proofs.Commands.{by_newest, newest_seen}
use Rattle.tn_session.proofs.setting.setting_for.Goals as goal

pub returns-in-None : goal.returns-in-None
returns-in-None g c =
    let k = call_seen c.args.call.now in
    let ks = c.args.settings.now in
    by_newest (settings_seen ks) k
    ∙ ap (λ o. setting_of_command o k.named) (newest_seen ks k.mfa k.exported ∙ ap (option_map function_setting_seen) (sym c.get.ensures ∙ ap (option_map (λ k. k.now)) c.in-None.is))

pub returns-in-Some : goal.returns-in-Some
returns-in-Some g c =
    let k = call_seen c.args.call.now in
    let ks = c.args.settings.now in
    by_newest (settings_seen ks) k
    ∙ ap (λ o. setting_of_command o k.named) (newest_seen ks k.mfa k.exported ∙ ap (option_map function_setting_seen) (sym c.get.ensures ∙ ap (option_map (λ k. k.now)) c.in-Some.is)) ∙ c.setting_if.ensures
