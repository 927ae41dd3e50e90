use Rattle.std.specs.Prelude.{IfOk, IfSome}
use Rattle.std.proofs.lemmas.Result.{IfOk-weaker}
use Rattle.complete_explore.specs.Explorations.{IfBoth}
use Rattle.complete_explore.proofs.SameEntries.{Promises, BothAlike, both_if_both}
use Rattle.complete_explore.proofs.search.explore.Goals as goal

pub returns : goal.returns
returns g c =
    let J = g.S.SearchState.journal in
    let I_one = g.S.SearchState.is_of c.args.contexts.0.now in
    let I_other = g.S.SearchState.is_of c.args.contexts.1.now in
    let F = g.S.SearchState.filters c.args.choice.now.filter.now in
    let K = g.S.SearchState.kept_seen in
    let one = c.args.one in
    let other = c.args.other in
    let most = c.args.max_states in
    let left = c.args.choice.now.leaves_out in
    let Both = BothAlike J K F most left I_one I_other one other in
    IfOk-weaker c.explore-first.result (λ o. IfSome o (Promises J K F most left I_one one)) (λ o. IfOk c.explore-second.result (λ r. IfBoth o r Both))
    (λ o h. IfOk-weaker c.explore-second.result (λ r. IfSome r (Promises J K F most left I_other other)) (λ r. IfBoth o r Both) (λ r k. both_if_both J K F most left I_one I_other one other o r h k) c.explore-second.ensures.some)
    c.explore-first.ensures.some
