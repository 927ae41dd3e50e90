use Rattle.std.proofs.Common.{◌∙◌, sym, ap}
use Rattle.std.specs.Option.{option_map}
use Rattle.tn_session.specs.Sessions.{SessionValue}
use Rattle.complete_session.proofs.session.look.Goals as goal

pub returns : goal.returns
returns g c = c.look.ensures ∙ ap (option_map (λ (s : SessionValue). s.state)) c.requires ∙ sym c.look-2.ensures
