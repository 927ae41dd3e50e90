use Rattle.std.proofs.Common.{◌∙◌, if◌then◌else◌, sym, ap}
use Rattle.def_spec.specs.Flags.{no_flags}
use Rattle.def_explain.specs.Differences.{hands_on}
use Rattle.def_running_node.specs.NodeSessions.{new_flags_given}
use Rattle.tn_session.specs.Looks.{look_seen}
use Rattle.tn_running_node.proofs.sight.new_flags_for.Goals as goal

pub returns-in-Some : goal.returns-in-Some
returns-in-Some g c =
    let s = look_seen c.args.look.now in
    c.new_flags_unless.ensures ∙ ap (λ b. if b then no_flags else s.new_process_flags) (c.hands_on.ensures ∙ ap hands_on c.flags_at.ensures) ∙ ap (new_flags_given s) (sym c.in-Some.is ∙ c.parent_of.ensures)

pub returns-in-None : goal.returns-in-None
returns-in-None g c = c.new_process_flags.ensures ∙ ap (new_flags_given (look_seen c.args.look.now)) (sym c.in-None.is ∙ c.parent_of.ensures)
