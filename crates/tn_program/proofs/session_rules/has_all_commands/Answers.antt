use Rattle.std.proofs.Common.{◌∙◌, length, map, nat_le, ap, sym, lit<, arith}
use Rattle.std.proofs.lemmas.List.{length-map, length-append}
use Rattle.def_script.specs.Limits.{COMMANDS}
use Rattle.def_script.specs.Rules.{commands_of}
use Rattle.tn_flags.specs.Views.{command_of}
use Rattle.tn_script.specs.Views.{form_of}
use Rattle.tn_program.proofs.session_rules.has_all_commands.Goals as goal

pub returns : goal.returns
returns g c =
    c.reaches.ensures (length (commands_of (map (form_of {A = g.row.A.Denot}) c.args.forms.now))) (length (map (command_of {A = g.row.A.Denot}) c.args.commands.now)) (lit< tt) c.all_commands.ensures (omega (arith, length-map c.args.commands.now (command_of {A = g.row.A.Denot})))
    ∙ ap (nat_le COMMANDS) (sym (length-append (commands_of (map (form_of {A = g.row.A.Denot}) c.args.forms.now)) (map (command_of {A = g.row.A.Denot}) c.args.commands.now)))
