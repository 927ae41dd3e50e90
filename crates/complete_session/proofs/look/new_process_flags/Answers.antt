use Rattle.std.proofs.Common.{◌∙◌, sym, ap}
use Rattle.def_session.specs.State as definition
use Rattle.complete_session.proofs.look.new_process_flags.Goals as goal

pub returns : goal.returns
returns g c = c.new_process_flags.ensures ∙ ap (λ (s : definition.Session). s.new_process_flags) c.requires ∙ sym c.new_process_flags-2.ensures
