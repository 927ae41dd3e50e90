use Rattle.std.proofs.Common.{◌∙◌, if◌then◌else◌, sym, ap}
use Rattle.def_spec.specs.Flags.{no_flags}
use Rattle.tn_session.specs.Looks.{look_seen}
use Rattle.tn_running_node.proofs.sight.new_flags_unless.Goals as goal

pub returns-then-hands_on : goal.returns-then-hands_on
returns-then-hands_on g c = c.none.ensures ∙ ap (λ b. if b then no_flags else (look_seen c.args.look.now).new_process_flags) (sym c.if-hands_on.true)

pub returns-else-hands_on : goal.returns-else-hands_on
returns-else-hands_on g c = c.new_process_flags.ensures ∙ ap (λ b. if b then no_flags else (look_seen c.args.look.now).new_process_flags) (sym c.if-hands_on.false)
