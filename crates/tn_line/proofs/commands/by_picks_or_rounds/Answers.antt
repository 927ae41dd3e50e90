use Rattle.std.proofs.Common.{codes}
use Rattle.std.proofs.lemmas.Result.{IfOk-weaker}
use Rattle.tn_line.specs.Line.{BY_PICKS, PICKS}
use Rattle.tn_line.proofs.Names.{one_more, same_name, still_wants}
use Rattle.tn_line.proofs.commands.by_picks_or_rounds.Goals as goal

pub returns-clause-arguments : goal.returns-clause-arguments
returns-clause-arguments c =
    let name = c.args.name.now in
    let limit_is = same_name PICKS (codes "limit") c.limit.result c.in_ok-limit.limit c.limit.ensures.named.0 c.in_ok-limit.ensures in
    let control_is = same_name PICKS (codes "control") c.control.result c.in_ok-control.control c.control.ensures.0 c.in_ok-control.ensures in
    let first = one_more name BY_PICKS (codes "round") c.in_ok-by_picks.field-0 c.in_ok-arg.field-0 c.in_rounds.result c.in_ok-by_picks.ensures.arguments
    c.in_rounds.ensures.0 c.in_ok-arg.ensures in
    let second = one_more name _ (codes "limit") c.in_ok-arg.field-0 c.in_ok-arg-2.field-0 c.in_ok-limit.limit first limit_is c.in_ok-arg-2.ensures in
    IfOk-weaker c.arg-3.result _ _
    (λ new added. one_more name _ (codes "control") c.in_ok-arg-2.field-0 new c.in_ok-control.control second control_is added)
    c.arg-3.ensures

pub returns-clause-picks : goal.returns-clause-picks
returns-clause-picks c =
    let g = c.in_ok-sources.sources in
    let first = still_wants g c.in_ok-by_picks.field-0 c.in_ok-arg.field-0 c.in_rounds.result c.in_ok-by_picks.ensures.picks c.in_ok-arg.ensures in
    let second = still_wants g c.in_ok-arg.field-0 c.in_ok-arg-2.field-0 c.in_ok-limit.limit first c.in_ok-arg-2.ensures in
    IfOk-weaker c.arg-3.result _ _
    (λ new added. (g, still_wants g c.in_ok-arg-2.field-0 new c.in_ok-control.control second added, c.in_ok-sources.ensures))
    c.arg-3.ensures
