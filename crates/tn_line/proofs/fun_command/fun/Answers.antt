use Rattle.std.proofs.Common.{rules, codes, []}
use Rattle.tn_line.specs.Line.{IsCommand}
use Rattle.tn_line.proofs.Names.{one_more, one_more_so}
use Rattle.tn_line.proofs.fun_command.fun.Goals as goal

pub returns : goal.returns
returns c =
    let name = codes "fun" in
    let bare : IsCommand name [] c.about.result = record { called = search rules; takes = search rules } in
    let first = one_more name [] (codes "for") c.about.result c.in_ok-arg.field-0 c.fun_event.result bare c.fun_event.ensures.named.0 c.in_ok-arg.ensures in
    let second = one_more name _ (codes "pretty") c.in_ok-arg.field-0 c.in_ok-arg-2.field-0 c.pretty.result first c.pretty.ensures.0 c.in_ok-arg-2.ensures in
    one_more_so name _ (codes "fun") c.in_ok-arg-2.field-0 c.fun_text.result c.arg-3.result second c.fun_text.ensures.0 c.arg-3.ensures
