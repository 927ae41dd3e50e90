use Rattle.std.proofs.Common.{rules, codes, []}
use Rattle.tn_line.specs.Line.{IsCommand}
use Rattle.tn_line.proofs.Names.{expectation_so, one_more}
use Rattle.tn_line.proofs.commands.workers.Goals as goal

pub returns : goal.returns
returns c =
    let name = codes "workers" in
    let bare : IsCommand name [] c.about.result = record { called = search rules; takes = search rules } in
    let first = one_more name [] (codes "script") c.about.result c.in_ok-arg.field-0 c.script.result bare c.script.ensures.0 c.in_ok-arg.ensures in
    let second = one_more name _ (codes "n") c.in_ok-arg.field-0 c.in_ok-arg-2.field-0 c.worker_count.result first c.worker_count.ensures.named.0
    c.in_ok-arg-2.ensures in
    let third = one_more name _ (codes "turns") c.in_ok-arg-2.field-0 c.in_ok-arg-3.field-0 c.turns.result second c.turns.ensures.named.0
    c.in_ok-arg-3.ensures in
    let fourth = one_more name _ (codes "spread") c.in_ok-arg-3.field-0 c.in_ok-arg-4.field-0 c.spread.result third c.spread.ensures.0
    c.in_ok-arg-4.ensures in
    let fifth = one_more name _ (codes "quiet") c.in_ok-arg-4.field-0 c.in_ok-command.command c.quiet.result fourth c.quiet.ensures.0
    c.in_ok-command.ensures in
    let sixth = c.in_ok-command-2.ensures.takes_formats name _ fifth in
    expectation_so name _ c.in_ok-command-2.command c.with_expectation.result sixth c.with_expectation.ensures
