use Rattle.std.proofs.Common.{◌∙◌, cond, map, nat_le, ap, sym, lit<}
use Rattle.std.specs.List.{count_by}
use Rattle.std.proofs.lemmas.List.Sums.{sum_by-append}
use Rattle.def_script.specs.Limits.{SESSIONS}
use Rattle.def_script.specs.Rules.{commands_of, is_creation}
use Rattle.tn_flags.specs.Views.{command_of}
use Rattle.tn_script.specs.Views.{form_of}
use Rattle.tn_program.proofs.session_rules.has_all_sessions.Goals as goal

pub returns : goal.returns
returns g c =
    c.reaches.ensures (count_by is_creation (commands_of (map (form_of {A = g.row.A.Denot}) c.args.forms.now))) (count_by is_creation (map (command_of {A = g.row.A.Denot}) c.args.commands.now)) (lit< tt) c.all_creations.ensures c.creation_total.ensures
    ∙ ap (nat_le SESSIONS) (sym (sum_by-append (λ x. cond (is_creation x) 1 0) (commands_of (map (form_of {A = g.row.A.Denot}) c.args.forms.now)) (map (command_of {A = g.row.A.Denot}) c.args.commands.now)))
