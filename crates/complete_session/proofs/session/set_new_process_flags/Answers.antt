use Rattle.std.proofs.Common.{◌∙◌, sym, ap₂}
use Rattle.std.specs.Option.{option_map}
use Rattle.tn_session.specs.Sessions.{with_new_process_flags}
use Rattle.complete_session.proofs.session.set_new_process_flags.Goals as goal

pub returns : goal.returns
returns g c =
    c.set_new_process_flags.ensures ∙ ap₂ (λ f s. option_map (with_new_process_flags f) s) c.requires.flags c.requires.sessions
    ∙ sym c.set_new_process_flags-2.ensures
