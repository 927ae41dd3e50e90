use Rattle.std.proofs.Common.{Some, ◌∙◌, sym, ap}
use Rattle.std.specs.Option.{option_map}
use Rattle.tn_term.specs.Views.{mfa_seen}
use Rattle.tn_session.specs.Looks.{parts_of}
use Rattle.tn_session.specs.Views.{function_setting_seen}
use Rattle.tn_session.proofs.Commands.{newest_seen}
use Rattle.tn_session.proofs.look.Look.newest_among.Goals as goal

pub returns-in-None : goal.returns-in-None
returns-in-None g c =
    let f = mfa_seen c.args.function.now in
    let ks = c.args.self.now.state.now.settings in
    sym (ap (option_map parts_of) (newest_seen ks f c.args.exported ∙ ap (option_map function_setting_seen) (sym c.get.ensures ∙ ap (option_map (λ x. x.now)) c.in-None.is)))

pub returns-in-Some : goal.returns-in-Some
returns-in-Some g c =
    let f = mfa_seen c.args.function.now in
    let ks = c.args.self.now.state.now.settings in
    ap (λ s. Some (s, c.in-Some.function_setting.now.local)) c.borrow_setting.ensures
    ∙ sym (ap (option_map parts_of) (newest_seen ks f c.args.exported ∙ ap (option_map function_setting_seen) (sym c.get.ensures ∙ ap (option_map (λ x. x.now)) c.in-Some.is)))
