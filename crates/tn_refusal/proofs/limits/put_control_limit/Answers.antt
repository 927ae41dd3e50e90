use Rattle.std.proofs.Common.{◌∙◌, ◌+◌, codes, length, map, ap, sym}
use Rattle.std.proofs.lemmas.List.{length-map}
use Rattle.def_script.specs.Rules.{commands_of}
use Rattle.def_wording.specs.RuleTexts.{total_text, up_to_greatest}
use Rattle.tn_flags.specs.Views.{command_of}
use Rattle.tn_script.specs.Views.{form_of}
use Rattle.tn_refusal.proofs.RuleReasons.{commands_limit, sessions_limit, more_up_to, sum_up_to}
use Rattle.tn_refusal.proofs.Writes.{read_as}
use Rattle.tn_refusal.proofs.limits.put_control_limit.Goals as goal

pub returns-then-total : goal.returns-then-total
returns-then-total g c =
    let fs = map (form_of {A = g.row.A.Denot}) c.args.earlier.now in
    let cs = map (command_of {A = g.row.A.Denot}) c.args.commands.now in
    let n = c.saturating_add-total.result in
    let same = length-map c.args.commands.now (command_of {A = g.row.A.Denot}) in
    let is = more_up_to c.all_commands.result (length (commands_of fs)) (length c.args.commands.now) n c.all_commands.ensures c.saturating_add-total.ensures ∙ ap (λ m. up_to_greatest (length (commands_of fs) + m)) (sym same) in
    read_as c.put_total.result c.args.out.now.items (total_text n (codes " commands")) _ c.put_total.new.out.items (commands_limit fs cs n is c.if-total.true) c.put_total.ensures

pub returns-else-total : goal.returns-else-total
returns-else-total g c =
    let fs = map (form_of {A = g.row.A.Denot}) c.args.earlier.now in
    let cs = map (command_of {A = g.row.A.Denot}) c.args.commands.now in
    let n = c.saturating_add-total.result in
    let m = c.saturating_add-created.result in
    let done = c.put_total-else-total in
    let same = length-map c.args.commands.now (command_of {A = g.row.A.Denot}) in
    let is = more_up_to c.all_commands.result (length (commands_of fs)) (length c.args.commands.now) n c.all_commands.ensures c.saturating_add-total.ensures ∙ ap (λ k. up_to_greatest (length (commands_of fs) + k)) (sym same) in
    let made = sum_up_to c.all_creations.result c.creation_total.result _ _ m c.all_creations.ensures c.creation_total.ensures c.saturating_add-created.ensures in
    read_as done.result c.args.out.now.items (total_text m (codes " sessions")) _ done.new.out.items (sessions_limit fs cs n m is c.if-total.false made) done.ensures
