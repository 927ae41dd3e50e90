use Rattle.std.proofs.Common.{rules, codes, []}
use Rattle.tn_line.specs.Line.{IsCommand}
use Rattle.tn_line.proofs.Names.{one_more, one_more_so}
use Rattle.tn_line.proofs.commands.spec.Goals as goal

pub returns : goal.returns
returns c =
    let name = codes "spec" in
    let bare : IsCommand name [] c.about.result = record { called = search rules; takes = search (rules, c.about.ensures, c.after_help.ensures, c.new.ensures) } in
    let first = one_more name [] (codes "list") c.about.result c.in_ok-arg.field-0 c.list.result bare c.list.ensures.named.0 c.in_ok-arg.ensures in
    let second = one_more name _ (codes "for") c.in_ok-arg.field-0 c.in_ok-arg-2.field-0 c.event.result first c.event.ensures.named.0 c.in_ok-arg-2.ensures in
    let third = one_more name _ (codes "me") c.in_ok-arg-2.field-0 c.in_ok-arg-3.field-0 c.own_process.result second c.own_process.ensures.named.0
    c.in_ok-arg-3.ensures in
    let fourth = one_more name _ (codes "caller") c.in_ok-arg-3.field-0 c.in_ok-arg-4.field-0 c.caller.result third c.caller.ensures.0 c.in_ok-arg-4.ensures in
    let fifth = one_more name _ (codes "json") c.in_ok-arg-4.field-0 c.in_ok-arg-5.field-0 c.json.result fourth c.json.ensures.0 c.in_ok-arg-5.ensures in
    let sixth = one_more name _ (codes "file") c.in_ok-arg-5.field-0 c.in_ok-arg-6.field-0 c.in_ok-spec_file.field-0 fifth c.in_ok-spec_file.ensures.0 c.in_ok-arg-6.ensures in
    let seventh = one_more name _ (codes "fun") c.in_ok-arg-6.field-0 c.in_ok-arg-7.field-0 c.of_fun.result sixth c.of_fun.ensures.0 c.in_ok-arg-7.ensures in
    one_more_so name _ (codes "specification") c.in_ok-arg-7.field-0 c.specification.result c.arg-8.result seventh c.specification.ensures.0 c.arg-8.ensures
