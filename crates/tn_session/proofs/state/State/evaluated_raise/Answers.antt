use Rattle.std.proofs.Common.{◌∙◌, if◌then◌else◌, [], Some, None, sym, ap}
use Rattle.std.specs.Option.{option_map}
use Rattle.def_spec.specs.Flags.{call_flag}
use Rattle.def_session.specs.State.{for_returns, for_exceptions}
use Rattle.tn_session.specs.Views.{mark_kind_seen, state_seen}
use Rattle.tn_session.proofs.Evaluations.{raise_case}
use Rattle.tn_session.proofs.state.State.evaluated_raise.Goals as goal

pub returns-in-Some-Exceptions : goal.returns-in-Some-Exceptions
returns-in-Some-Exceptions g c = λ f k t.
    c.plainly.ensures ∙ ap (λ h. if h call_flag then Some [] else None) c.flags_at.ensures
    ∙ raise_case (state_seen c.args.self.now) c.args.pid c.args.depth (Some for_exceptions) (sym (ap (option_map mark_kind_seen) (c.in-Some-Exceptions.is ∙ ap Some c.in-Some-Exceptions.field-0-is)) ∙ c.mark_of.ensures)

pub returns-in-Some-Returns : goal.returns-in-Some-Returns
returns-in-Some-Returns g c = λ f k t.
    raise_case (state_seen c.args.self.now) c.args.pid c.args.depth (Some for_returns) (sym (ap (option_map mark_kind_seen) (c.in-Some-Returns.is ∙ ap Some c.in-Some-Returns.field-0-is)) ∙ c.mark_of.ensures)

pub returns-in-None : goal.returns-in-None
returns-in-None g c = λ f k t.
    raise_case (state_seen c.args.self.now) c.args.pid c.args.depth None (sym (ap (option_map mark_kind_seen) c.in-None.is) ∙ c.mark_of.ensures)
