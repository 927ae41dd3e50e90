use Rattle.std.proofs.Common.{ap, ◌∙◌, map, arith}
use Rattle.std.proofs.lemmas.List.{take_all}
use Rattle.tn_term.specs.SharedTree.{shared_tree}
use Rattle.tn_term.proofs.Steps.{made_more}
use Rattle.tn_guard.specs.Views.{value_seen}
use Rattle.tn_guard.proofs.Views.{value_seen_lent}
use Rattle.tn_guard.proofs.shared_terms.lent_values.Goals as goal

pub loop-term-preserved : goal.loop-term-preserved
loop-term-preserved g c =
    let s = c.loop-term in
    let value = value_seen_lent c.term.result ∙ c.term.ensures in
    made_more shared_tree value_seen c.deref-term-items.result.now s.term-index c.term-item.result s.values.items c.push.new.self.items _
    (omega arith) c.term-item.is c.in_ok-push.ensures.items value s.invariant

pub returns : goal.returns
returns g c =
    let s = c.loop-term in
    s.invariant ∙ ap (map shared_tree) (take_all s.term-index c.deref-term-items.result.now (omega arith)) ∙ ap (map shared_tree) c.deref-term-items.ensures.value
