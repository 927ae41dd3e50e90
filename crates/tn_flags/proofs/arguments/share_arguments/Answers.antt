use Rattle.std.proofs.Common.{ap, ◌∙◌, map, arith}
use Rattle.tn_term.specs.SharedTree.{shared_tree}
use Rattle.tn_term.proofs.Steps.{made_more}
use Rattle.std.proofs.lemmas.List.{take_all}
use Rattle.tn_flags.proofs.arguments.share_arguments.Goals as goal

pub loop-arg-preserved : goal.loop-arg-preserved
loop-arg-preserved g c =
    let s = c.loop-arg in
    made_more shared_tree shared_tree c.deref-arg-items.result.now s.arg-index c.arg-item.result s.owned.items c.push.new.self.items c.in_ok-share.field-0
    (omega arith) c.arg-item.is c.in_ok-push.ensures.items c.in_ok-share.ensures s.invariant

pub returns : goal.returns
returns g c =
    let s = c.loop-arg in
    s.invariant ∙ ap (map shared_tree) (take_all s.arg-index c.deref-arg-items.result.now (omega arith)) ∙ ap (map shared_tree) c.deref-arg-items.ensures.value
