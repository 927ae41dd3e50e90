use Rattle.std.proofs.Common.{◌∙◌, ap, sym}
use Rattle.std.specs.Option.{option_map}
use Rattle.def_script.specs.Script.{creations}
use Rattle.tn_program.specs.Variables.{name_pair}
use Rattle.tn_program.specs.Views.{program_of}
use Rattle.tn_exploration.proofs.Places.{no_name, name_added}
use Rattle.tn_exploration.proofs.sessions.add_name.Goals as goal

pub returns-in_default : goal.returns-in_default
returns-in_default g c = no_name c.args.place (creations (program_of c.args.program.now).commands) _ (sym c.session_at.ensures ∙ ap (option_map name_pair) c.in_default.is)

pub returns : goal.returns
returns g c =
    name_added c.args.names.now.items c.push.new.self.items _ c.args.place (creations (program_of c.args.program.now).commands) _
    (sym c.session_at.ensures ∙ ap (option_map name_pair) c.in-Some.is) c.in_ok-push.ensures.items c.in_ok-name.ensures c.in_ok-tracer.ensures
