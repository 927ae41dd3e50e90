use Rattle.std.proofs.Common.{◌∙◌, ap, sym}
use Rattle.std.specs.Option.{option_map}
use Rattle.tn_program.specs.Variables.{name_pair}
use Rattle.tn_exploration.proofs.Places.{none_there, not_asked, one_asked}
use Rattle.tn_exploration.proofs.sessions.add_place.Goals as goal

pub returns-in_default : goal.returns-in_default
returns-in_default g c = none_there _ c.args.place c.args.places.now.items _ (sym c.session_at.ensures ∙ ap (option_map name_pair) c.in_default.is)

pub returns-then-not-is_session_of_request : goal.returns-then-not-is_session_of_request
returns-then-not-is_session_of_request g c = not_asked _ c.args.place c.args.places.now.items _ _ c.is_session_of_request.result (sym c.session_at.ensures ∙ ap (option_map name_pair) c.in-Some.is) c.is_session_of_request.ensures c.if-not-is_session_of_request.true

pub returns : goal.returns
returns g c = one_asked _ c.args.place c.args.places.now.items c.push.new.self.items _ _ c.is_session_of_request.result (sym c.session_at.ensures ∙ ap (option_map name_pair) c.in-Some.is) c.is_session_of_request.ensures c.if-not-is_session_of_request.false c.in_ok-push.ensures.items
