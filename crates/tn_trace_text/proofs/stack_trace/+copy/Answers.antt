use Rattle.std.proofs.Common.{◌≡◌, ◌∙◌, ap, sym, map, take, false, arith, rules}
use Rattle.std.proofs.lemmas.List.{take_all}
use Rattle.def_term.specs.Tree.{tuple, list, of_elements}
use Rattle.def_trace_text.specs.StackTraces.{is_stack, without_stacks}
use Rattle.tn_term.specs.Views.{tree_of, trees_of}
use Rattle.tn_term.proofs.Steps.{made_more}
use Rattle.tn_term.proofs.Views.{tree_of_tuple, tree_of_list}
use Rattle.tn_trace_text.proofs.StackTraces.{each_seen, list_left}
use Rattle.tn_trace_text.proofs.stack_trace.+copy.Goals as goal

pub without_stacks-returns-in_ok-each_without_stacks-in-Tuple : goal.without_stacks-returns-in_ok-each_without_stacks-in-Tuple
without_stacks-returns-in_ok-each_without_stacks-in-Tuple g t c =
    tree_of_tuple c.in_ok-each_without_stacks-in-Tuple.field-0
    ∙ ap (λ ts. tuple (of_elements ts)) (c.in_ok-each_without_stacks-in-Tuple.ensures ∙ ap (λ v. map (λ x. without_stacks (tree_of x)) v) c.as_slice.ensures.value)
    ∙ ap tuple (each_seen c.in-Tuple.v.items)
    ∙ sym (ap (λ x. without_stacks (tree_of x)) c.in-Tuple.is ∙ ap without_stacks (tree_of_tuple c.in-Tuple.v))

pub each_without_stacks-loop-item-preserved : goal.each_without_stacks-loop-item-preserved
each_without_stacks-loop-item-preserved g t c =
    made_more (λ x. without_stacks (tree_of x)) tree_of c.args.items.now c.loop-item.item-index c.item-item.result c.loop-item.copies.items c.push.new.self.items c.in_ok-without_stacks.field-0
    (omega arith) c.item-item.is (search rules) c.in_ok-without_stacks.ensures c.loop-item.invariant

pub each_without_stacks-loop-item-init : goal.each_without_stacks-loop-item-init
each_without_stacks-loop-item-init g t c = ap (map tree_of) c.in_ok-copies.ensures.items

pub each_without_stacks-returns : goal.each_without_stacks-returns
each_without_stacks-returns g t c =
    let whole : take c.loop-item.item-index c.args.items.now ≡ c.args.items.now = take_all c.loop-item.item-index c.args.items.now (omega arith) in
    c.loop-item.invariant ∙ ap (λ xs. map (λ x. without_stacks (tree_of x)) xs) whole

pub without_stacks-returns-in_ok-each_without_stacks-in-List : goal.without_stacks-returns-in_ok-each_without_stacks-in-List
without_stacks-returns-in_ok-each_without_stacks-in-List g t c =
    let kept : is_stack (trees_of c.in-List.v.items) ≡ false = sym (ap (λ xs. is_stack (trees_of xs)) c.as_slice-in-List.ensures.value) ∙ sym c.is_stack.ensures ∙ c.if-is_stack.false in
    tree_of_list c.in_ok-each_without_stacks-in-List.field-0
    ∙ ap (λ ts. list (of_elements ts)) (c.in_ok-each_without_stacks-in-List.ensures ∙ ap (λ v. map (λ x. without_stacks (tree_of x)) v) c.as_slice-in-List-2.ensures.value)
    ∙ ap list (each_seen c.in-List.v.items)
    ∙ sym (list_left (trees_of c.in-List.v.items) kept)
    ∙ sym (ap (λ x. without_stacks (tree_of x)) c.in-List.is ∙ ap without_stacks (tree_of_list c.in-List.v))
