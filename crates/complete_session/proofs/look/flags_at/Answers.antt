use Rattle.std.proofs.Common.{◌∙◌, sym, ap}
use Rattle.def_session.specs.State as definition
use Rattle.complete_session.proofs.look.flags_at.Goals as goal

pub returns : goal.returns
returns g c = c.flags_at.ensures ∙ ap (λ s. definition.flags_at s c.args.pid) c.requires ∙ sym c.flags_at-2.ensures
