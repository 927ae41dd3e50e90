use Rattle.std.proofs.Common.{codes}
use Rattle.std.proofs.lemmas.Result.{IfOk-weaker}
use Rattle.tn_line.specs.Line.{BY_PICKS}
use Rattle.tn_line.proofs.Names.{expectation_so, one_more, still_wants}
use Rattle.tn_line.proofs.commands.replay.Goals as goal

pub returns-clause-arguments : goal.returns-clause-arguments
returns-clause-arguments c =
    let own = one_more (codes "replay") BY_PICKS (codes "quiet") c.in_ok-by_picks.field-0 c.in_ok-command.command c.quiet.result
    c.in_ok-by_picks.ensures.arguments c.quiet.ensures.0 c.in_ok-command.ensures in
    let formatted = c.in_ok-command-2.ensures.takes_formats (codes "replay") _ own in
    expectation_so (codes "replay") _ c.in_ok-command-2.command c.with_expectation.result formatted c.with_expectation.ensures

pub returns-clause-picks : goal.returns-clause-picks
returns-clause-picks c =
    let sources = c.in_ok-sources.sources in
    let wants = still_wants sources c.in_ok-by_picks.field-0 c.in_ok-command.command c.quiet.result c.in_ok-by_picks.ensures.picks c.in_ok-command.ensures in
    IfOk-weaker c.with_expectation.result _ _ (λ new more. (sources, more.wants_so sources (c.in_ok-command-2.ensures.wants_picks_so sources wants), c.in_ok-sources.ensures)) c.with_expectation.ensures
