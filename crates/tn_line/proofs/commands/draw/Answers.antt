use Rattle.std.proofs.Common.{codes}
use Rattle.std.proofs.lemmas.Result.{IfOk-weaker}
use Rattle.tn_line.specs.Line.{BY_PICKS_OR_ROUNDS}
use Rattle.tn_line.proofs.Names.{expectation_so, one_more, still_wants}
use Rattle.tn_line.proofs.commands.draw.Goals as goal

pub returns-clause-arguments : goal.returns-clause-arguments
returns-clause-arguments c =
    let name = codes "draw" in
    let first = one_more name BY_PICKS_OR_ROUNDS (codes "text") c.in_ok-by_picks_or_rounds.field-0 c.in_ok-arg.field-0 c.in_ok-text.field-0
    c.in_ok-by_picks_or_rounds.ensures.arguments c.in_ok-text.ensures.0 c.in_ok-arg.ensures in
    let second = one_more name _ (codes "json") c.in_ok-arg.field-0 c.in_ok-command.command c.json.result first c.json.ensures.0
    c.in_ok-command.ensures in
    expectation_so name _ c.in_ok-command.command c.with_expectation.result second c.with_expectation.ensures

pub returns-clause-picks : goal.returns-clause-picks
returns-clause-picks c =
    let wanted = c.in_ok-by_picks_or_rounds.ensures.picks in
    let g = wanted.0 in
    let first = still_wants g c.in_ok-by_picks_or_rounds.field-0 c.in_ok-arg.field-0 c.in_ok-text.field-0 wanted.1 c.in_ok-arg.ensures in
    let second = still_wants g c.in_ok-arg.field-0 c.in_ok-command.command c.json.result first c.in_ok-command.ensures in
    IfOk-weaker c.with_expectation.result _ _ (λ new more. (g, more.wants_so g second, wanted.2)) c.with_expectation.ensures
