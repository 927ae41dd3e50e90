use Rattle.std.proofs.Common.{rules, codes, []}
use Rattle.tn_line.specs.Line.{IsCommand}
use Rattle.tn_line.proofs.Names.{one_more, one_more_so}
use Rattle.tn_line.proofs.compare_command.traces.Goals as goal

pub returns : goal.returns
returns c =
    let name = codes "compare" in
    let bare : IsCommand name [] c.about.result = record { called = search rules; takes = search rules } in
    let first = one_more name [] (codes "script") c.about.result c.in_ok-arg.field-0 c.script.result bare c.script.ensures.0 c.in_ok-arg.ensures in
    let second = one_more name _ (codes "trace") c.in_ok-arg.field-0 c.in_ok-arg-2.field-0 c.trace.result first c.trace.ensures.0 c.in_ok-arg-2.ensures in
    let third = one_more name _ (codes "prefix") c.in_ok-arg-2.field-0 c.in_ok-arg-3.field-0 c.prefix.result second c.prefix.ensures.0 c.in_ok-arg-3.ensures in
    let fourth = one_more name _ (codes "after") c.in_ok-arg-3.field-0 c.in_ok-arg-4.field-0 c.after.result third c.after.ensures.0 c.in_ok-arg-4.ensures in
    let fifth = one_more name _ (codes "control") c.in_ok-arg-4.field-0 c.in_ok-arg-5.field-0 c.in_ok-first_control.field-0 fourth c.in_ok-first_control.ensures.0
    c.in_ok-arg-5.ensures in
    one_more_so name _ (codes "json") c.in_ok-arg-5.field-0 c.json.result c.arg-6.result fifth c.json.ensures.0 c.arg-6.ensures
