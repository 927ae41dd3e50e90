use Rattle.std.proofs.Common.{◌∙◌, Some, sym, ap₂}
use Rattle.def_session.specs.State.{live, new_session}
use Rattle.complete_session.proofs.session.created.Goals as goal

pub returns : goal.returns
returns g c =
    c.created-first.ensures ∙ ap₂ (λ fs a. Some (record { functions = fs; state = new_session live a })) c.requires.functions c.requires.alive ∙ sym c.created-second.ensures
