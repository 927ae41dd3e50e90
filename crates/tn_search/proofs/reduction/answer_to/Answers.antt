use Rattle.std.proofs.Common.{◌≡◌, subst}
use Rattle.std.specs.Option.{IsSomeAnd}
use Rattle.std.proofs.lemmas.Result.{IfOk-weaker}
use Rattle.def_node.specs.Node.{pick_result}
use Rattle.tn_node.specs.Nodes.{next_node, moved_seen}
use Rattle.tn_search.specs.Probes.{AnswersPick}
use Rattle.tn_search.proofs.reduction.answer_to.Goals as goal

pub returns : goal.returns
returns g c =
    let pick = c.args.pick in
    let new = c.step.new.self in
    IfOk-weaker c.step.result (λ m. IsSomeAnd c.in_ok-probe.probe (λ n. next_node n (pick_result n.functions n.commands n.state pick) ≡ (new, moved_seen m))) (λ m. AnswersPick pick c.args.node.now (moved_seen m))
    (λ m h. record { after = new; gives = subst (λ o. IsSomeAnd o (λ n. next_node n (pick_result n.functions n.commands n.state pick) ≡ (new, moved_seen m))) c.in_ok-probe.ensures h })
    c.step.ensures.moved
