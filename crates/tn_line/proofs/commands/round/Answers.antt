use Rattle.std.proofs.Common.{rules, codes, []}
use Rattle.tn_line.specs.Line.{IsCommand}
use Rattle.tn_line.proofs.Names.{expectation_so, one_more}
use Rattle.tn_line.proofs.commands.round.Goals as goal

pub returns : goal.returns
returns c =
    let name = codes "round" in
    let bare : IsCommand name [] c.about.result = record { called = search rules; takes = search rules } in
    let first = one_more name [] (codes "script") c.about.result c.in_ok-arg.field-0 c.script.result bare c.script.ensures.0 c.in_ok-arg.ensures in
    let second = one_more name _ (codes "limit") c.in_ok-arg.field-0 c.in_ok-arg-2.field-0 c.limit.result first c.limit.ensures.named.0
    c.in_ok-arg-2.ensures in
    let third = one_more name _ (codes "control") c.in_ok-arg-2.field-0 c.in_ok-arg-3.field-0 c.control.result second c.control.ensures.0
    c.in_ok-arg-3.ensures in
    let fourth = one_more name _ (codes "quiet") c.in_ok-arg-3.field-0 c.in_ok-command.command c.quiet.result third c.quiet.ensures.0
    c.in_ok-command.ensures in
    let fifth = c.in_ok-command-2.ensures.takes_formats name _ fourth in
    expectation_so name _ c.in_ok-command-2.command c.with_expectation.result fifth c.with_expectation.ensures
