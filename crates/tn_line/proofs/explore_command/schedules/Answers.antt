use Rattle.std.proofs.Common.{rules, codes, []}
use Rattle.tn_line.specs.Line.{IsCommand}
use Rattle.tn_line.proofs.Names.{one_more, one_more_so}
use Rattle.tn_line.proofs.explore_command.schedules.Goals as goal

pub returns : goal.returns
returns c =
    let name = codes "explore" in
    let bare : IsCommand name [] c.about.result = record { called = search rules; takes = search rules } in
    let first = one_more name [] (codes "script") c.about.result c.in_ok-arg.field-0 c.script.result bare c.script.ensures.0 c.in_ok-arg.ensures in
    let second = one_more name _ (codes "after") c.in_ok-arg.field-0 c.in_ok-arg-2.field-0 c.after.result first c.after.ensures.0 c.in_ok-arg-2.ensures in
    let third = one_more name _ (codes "control") c.in_ok-arg-2.field-0 c.in_ok-arg-3.field-0 c.in_ok-first_control.field-0 second c.in_ok-first_control.ensures.0 c.in_ok-arg-3.ensures in
    let fourth = one_more name _ (codes "order") c.in_ok-arg-3.field-0 c.in_ok-arg-4.field-0 c.listing_order.result third c.listing_order.ensures.named.0
    c.in_ok-arg-4.ensures in
    let fifth = one_more name _ (codes "session") c.in_ok-arg-4.field-0 c.in_ok-arg-5.field-0 c.one_session.result fourth c.one_session.ensures.0
    c.in_ok-arg-5.ensures in
    let sixth = one_more name _ (codes "summary") c.in_ok-arg-5.field-0 c.in_ok-arg-6.field-0 c.summary.result fifth c.summary.ensures.0
    c.in_ok-arg-6.ensures in
    one_more_so name _ (codes "json") c.in_ok-arg-6.field-0 c.in_ok-json_alone.field-0 c.arg-7.result sixth c.in_ok-json_alone.ensures.0 c.arg-7.ensures
