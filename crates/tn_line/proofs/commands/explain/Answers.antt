use Rattle.std.proofs.Common.{codes}
use Rattle.std.proofs.lemmas.Result.{IfOk-weaker}
use Rattle.tn_line.specs.Line.{BY_PICKS_OR_ROUNDS}
use Rattle.tn_line.proofs.Names.{expectation_so, one_more, still_wants}
use Rattle.tn_line.proofs.commands.explain.Goals as goal

pub returns-clause-arguments : goal.returns-clause-arguments
returns-clause-arguments c =
    let name = codes "explain" in
    let first = one_more name BY_PICKS_OR_ROUNDS (codes "number") c.in_ok-by_picks_or_rounds.field-0 c.in_ok-arg.field-0 c.move_word.result
    c.in_ok-by_picks_or_rounds.ensures.arguments c.move_word.ensures.0 c.in_ok-arg.ensures in
    let second = one_more name _ (codes "session") c.in_ok-arg.field-0 c.in_ok-arg-2.field-0 c.session.result first c.session.ensures.0
    c.in_ok-arg-2.ensures in
    let third = one_more name _ (codes "move") c.in_ok-arg-2.field-0 c.in_ok-arg-3.field-0 c.move_number.result second c.move_number.ensures.0
    c.in_ok-arg-3.ensures in
    let fourth = one_more name _ (codes "node") c.in_ok-arg-3.field-0 c.in_ok-arg-4.field-0 c.node.result third c.node.ensures.0
    c.in_ok-arg-4.ensures in
    let fifth = one_more name _ (codes "message") c.in_ok-arg-4.field-0 c.in_ok-arg-5.field-0 c.in_ok-message.field-0 fourth c.in_ok-message.ensures.0
    c.in_ok-arg-5.ensures in
    let sixth = one_more name _ (codes "why-not") c.in_ok-arg-5.field-0 c.in_ok-arg-6.field-0 c.in_ok-why_not.field-0 fifth c.in_ok-why_not.ensures.0
    c.in_ok-arg-6.ensures in
    let seventh = one_more name _ (codes "json") c.in_ok-arg-6.field-0 c.in_ok-command.command c.json.result sixth c.json.ensures.0
    c.in_ok-command.ensures in
    expectation_so name _ c.in_ok-command.command c.with_expectation.result seventh c.with_expectation.ensures

pub returns-clause-picks : goal.returns-clause-picks
returns-clause-picks c =
    let wanted = c.in_ok-by_picks_or_rounds.ensures.picks in
    let g = wanted.0 in
    let first = still_wants g c.in_ok-by_picks_or_rounds.field-0 c.in_ok-arg.field-0 c.move_word.result wanted.1 c.in_ok-arg.ensures in
    let second = still_wants g c.in_ok-arg.field-0 c.in_ok-arg-2.field-0 c.session.result first c.in_ok-arg-2.ensures in
    let third = still_wants g c.in_ok-arg-2.field-0 c.in_ok-arg-3.field-0 c.move_number.result second c.in_ok-arg-3.ensures in
    let fourth = still_wants g c.in_ok-arg-3.field-0 c.in_ok-arg-4.field-0 c.node.result third c.in_ok-arg-4.ensures in
    let fifth = still_wants g c.in_ok-arg-4.field-0 c.in_ok-arg-5.field-0 c.in_ok-message.field-0 fourth c.in_ok-arg-5.ensures in
    let sixth = still_wants g c.in_ok-arg-5.field-0 c.in_ok-arg-6.field-0 c.in_ok-why_not.field-0 fifth c.in_ok-arg-6.ensures in
    let seventh = still_wants g c.in_ok-arg-6.field-0 c.in_ok-command.command c.json.result sixth c.in_ok-command.ensures in
    IfOk-weaker c.with_expectation.result _ _ (λ new more. (g, more.wants_so g seventh, wanted.2)) c.with_expectation.ensures
