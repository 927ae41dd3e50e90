use Rattle.std.proofs.Common.{◌≡◌, ◌∙◌, sym}
use Rattle.tn_flags.specs.Views.{command_of}
use Rattle.tn_command_reason.specs.CommandReasons.{command_reasons_seen, HasCommandReason}
use Rattle.complete_explain.proofs.OneNote.{if_both}
use Rattle.complete_explain.proofs.command_reasons.command_reason.Goals as goal

pub returns : goal.returns
returns g c =
    let s = c.requires in
    let k = command_of c.args.command.now in
    if_both c.command_reason.result c.command_reason-2.result
    (λ r. HasCommandReason c.args.functions.now c.args.session.now k (command_reasons_seen r)) (λ r. HasCommandReason c.args.functions.now c.args.session.now k (command_reasons_seen r))
    (λ x y. command_reasons_seen x ≡ command_reasons_seen y)
    (λ x y h i. h s.exports s.visible_functions s.living s.state s.is ∙ sym (i s.exports s.visible_functions s.living s.state s.is))
    c.command_reason.ensures c.command_reason-2.ensures
