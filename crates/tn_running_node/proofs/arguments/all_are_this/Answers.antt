use Rattle.std.proofs.Common.{◌∙◌, ◌+◌, ◌&&◌, drop, sym, ap}
use Rattle.def_term.specs.Tree.{atom}
use Rattle.def_running_node.specs.NodeReplies.{all_are_this}
use Rattle.tn_term.specs.Views.{trees_of}
use Rattle.tn_running_node.proofs.FunctionArguments.{next_is}
use Rattle.tn_running_node.proofs.arguments.all_are_this.Goals as goal

pub returns-then-not-is_word : goal.returns-then-not-is_word
returns-then-not-is_word g c =
    let i = c.loop-item.item-index in
    let xs = c.deref-item-items.result.now in
    let t = atom c.args.name.now in
    ap (λ b. b && all_are_this t (trees_of (drop (i + 1) xs))) (sym c.if-not-is_word.true ∙ c.is_word.ensures) ∙ sym (next_is t xs i c.item-item.result c.loop-item-test.true c.item-item.is) ∙ c.loop-item.invariant

pub loop-item-preserved : goal.loop-item-preserved
loop-item-preserved g c =
    let i = c.loop-item.item-index in
    let xs = c.deref-item-items.result.now in
    let t = atom c.args.name.now in
    ap (λ b. b && all_are_this t (trees_of (drop (i + 1) xs))) (sym c.if-not-is_word.false ∙ c.is_word.ensures) ∙ sym (next_is t xs i c.item-item.result c.loop-item-test.true c.item-item.is) ∙ c.loop-item.invariant
