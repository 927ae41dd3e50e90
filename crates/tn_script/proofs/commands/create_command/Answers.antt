use Rattle.std.proofs.Common.{map, ap, ◌∙◌}
use Rattle.std.specs.Option.{option_map}
use Rattle.def_script.specs.Program.{create, set_send}
use Rattle.tn_term.specs.Views.{tree_of}
use Rattle.tn_flags.specs.Views.{command_of}
use Rattle.tn_script.proofs.Creations.{created, not_created}
use Rattle.tn_script.proofs.commands.create_command.Goals as goal

pub returns-in_err-session : goal.returns-in_err-session
returns-in_err-session g c = ap (option_map command_of) c.from_residual.ensures ∙ not_created (map (tree_of {A = g.row.A.Denot}) c.args.fields.items) (c.in_err-session.ensures set_send)

pub returns-in_err-tracer : goal.returns-in_err-tracer
returns-in_err-tracer g c =
    ap (option_map command_of) c.from_residual-in_err-tracer.ensures ∙ ap (option_map (create c.in_ok-session.session)) c.in_err-tracer.ensures
    ∙ created (map (tree_of {A = g.row.A.Denot}) c.args.fields.items) c.in_ok-session.session (tree_of {A = g.row.A.Denot} c.in_ok-session.tracer) (c.in_ok-session.ensures set_send)

pub returns : goal.returns
returns g c =
    ap (option_map (create c.in_ok-session.session)) c.in_ok-tracer.ensures
    ∙ created (map (tree_of {A = g.row.A.Denot}) c.args.fields.items) c.in_ok-session.session (tree_of {A = g.row.A.Denot} c.in_ok-session.tracer) (c.in_ok-session.ensures set_send)
