use Rattle.std.proofs.Common.{◌≡◌, ◌∙◌, [], ◌∷◌, ◌++◌, refl, sym, ap, arith}
use Rattle.def_fun.specs.Trees as tree
use Rattle.def_fun_words.specs.Notes.{noted_parts_of, parts_of_each}
use Rattle.tn_fun.specs.Tokens.{operator_seen}
use Rattle.tn_fun.specs.Trees.{fun_expr_seen, fun_exprs_seen}
use Rattle.tn_fun.proofs.TreeViews.{seen_variable, seen_integer, seen_atom, seen_strings, seen_parens, seen_call, seen_list, seen_list_onto, seen_tuple, seen_before, seen_between}
use Rattle.tn_fun_words.specs.Views.{lent_exprs_seen}
use Rattle.tn_fun_words.proofs.PartLists.{lent_more, first_part, node_ok, node_of_two_ok, each_next, each_end}
use Rattle.tn_fun_words.proofs.parts.+parts.Goals as goal

pub put_each-loop-item-preserved : goal.put_each-loop-item-preserved
put_each-loop-item-preserved g t c = λ text.
    each_next text c.deref-item-items.result.now c.loop-item.item-index c.item-item.result (lent_exprs_seen text c.loop-item.out.items) (lent_exprs_seen text c.put_parts.new.out.items) _ (omega arith) c.item-item.is (c.loop-item.invariant text) (c.in_ok-put_parts.ensures text)

pub put_each-returns : goal.put_each-returns
put_each-returns g t c = λ text. each_end text c.deref-item-items.result.now c.loop-item.item-index (lent_exprs_seen text c.loop-item.out.items) _ (omega arith) (c.loop-item.invariant text)

pub put_parts-returns-in-Variable : goal.put_parts-returns-in-Variable
put_parts-returns-in-Variable g t c = λ text.
    let old = lent_exprs_seen text c.args.out.now.items in
    let e = fun_expr_seen text c.args.expr.now in
    let is = ap (fun_expr_seen text) c.in-Variable.is ∙ seen_variable _ text c.in-Variable.field-0 in
    lent_more text c.args.out.now.items c.push.new.self.items c.args.expr c.in_ok-push.ensures.items ∙ ap (λ z. old ++ z) (sym (first_part e _ [] is refl))

pub put_parts-returns-in-Integer : goal.put_parts-returns-in-Integer
put_parts-returns-in-Integer g t c = λ text.
    let old = lent_exprs_seen text c.args.out.now.items in
    let e = fun_expr_seen text c.args.expr.now in
    let is = ap (fun_expr_seen text) c.in-Integer.is ∙ seen_integer _ text c.in-Integer.field-0 c.in-Integer.field-1 in
    lent_more text c.args.out.now.items c.push.new.self.items c.args.expr c.in_ok-push.ensures.items ∙ ap (λ z. old ++ z) (sym (first_part e _ [] is refl))

pub put_parts-returns-in-Atom : goal.put_parts-returns-in-Atom
put_parts-returns-in-Atom g t c = λ text.
    let old = lent_exprs_seen text c.args.out.now.items in
    let e = fun_expr_seen text c.args.expr.now in
    let is = ap (fun_expr_seen text) c.in-Atom.is ∙ seen_atom _ text c.in-Atom.field-0 in
    lent_more text c.args.out.now.items c.push.new.self.items c.args.expr c.in_ok-push.ensures.items ∙ ap (λ z. old ++ z) (sym (first_part e _ [] is refl))

pub put_parts-returns-in-Strings : goal.put_parts-returns-in-Strings
put_parts-returns-in-Strings g t c = λ text.
    let old = lent_exprs_seen text c.args.out.now.items in
    let e = fun_expr_seen text c.args.expr.now in
    let is = ap (fun_expr_seen text) c.in-Strings.is ∙ seen_strings text c.in-Strings.field-0 c.in-Strings.field-1 in
    lent_more text c.args.out.now.items c.push.new.self.items c.args.expr c.in_ok-push.ensures.items ∙ ap (λ z. old ++ z) (sym (first_part e _ [] is refl))

pub put_parts-returns-in-Parens : goal.put_parts-returns-in-Parens
put_parts-returns-in-Parens g t c = λ text.
    let e = fun_expr_seen text c.args.expr.now in
    let rest = noted_parts_of (fun_expr_seen text c.deref.result.now) in
    let is = ap (fun_expr_seen text) c.in-Parens.is ∙ seen_parens text c.in-Parens.field-0 c.in-Parens.inner ∙ ap (λ z. tree.in_parens c.in-Parens.field-0 (fun_expr_seen text z)) (sym c.deref.ensures) in
    node_ok c.put_parts.result (lent_exprs_seen text c.args.out.now.items) (lent_exprs_seen text c.push.new.self.items) (lent_exprs_seen text c.put_parts.new.out.items) rest (noted_parts_of e) e
    (lent_more text c.args.out.now.items c.push.new.self.items c.args.expr c.in_ok-push.ensures.items) (first_part e _ rest is refl) (c.put_parts.ensures text)

pub put_parts-returns-in-Before : goal.put_parts-returns-in-Before
put_parts-returns-in-Before g t c = λ text.
    let e = fun_expr_seen text c.args.expr.now in
    let rest = noted_parts_of (fun_expr_seen text c.deref-in-Before.result.now) in
    let is = ap (fun_expr_seen text) c.in-Before.is ∙ seen_before text c.in-Before.field-0 c.in-Before.field-1 c.in-Before.inner ∙ ap (λ z. tree.before c.in-Before.field-0 (operator_seen c.in-Before.field-1) (fun_expr_seen text z)) (sym c.deref-in-Before.ensures) in
    node_ok c.put_parts-in-Before.result (lent_exprs_seen text c.args.out.now.items) (lent_exprs_seen text c.push.new.self.items) (lent_exprs_seen text c.put_parts-in-Before.new.out.items) rest (noted_parts_of e) e
    (lent_more text c.args.out.now.items c.push.new.self.items c.args.expr c.in_ok-push.ensures.items) (first_part e _ rest is refl) (c.put_parts-in-Before.ensures text)

pub put_parts-returns-in-Call : goal.put_parts-returns-in-Call
put_parts-returns-in-Call g t c = λ text.
    let e = fun_expr_seen text c.args.expr.now in
    let rest = parts_of_each (fun_exprs_seen text c.in-Call.items.items) in
    let is = ap (fun_expr_seen text) c.in-Call.is ∙ seen_call text c.in-Call.field-0 c.in-Call.items in
    node_ok c.put_each.result (lent_exprs_seen text c.args.out.now.items) (lent_exprs_seen text c.push.new.self.items) (lent_exprs_seen text c.put_each.new.out.items) rest (noted_parts_of e) e
    (lent_more text c.args.out.now.items c.push.new.self.items c.args.expr c.in_ok-push.ensures.items) (first_part e _ rest is refl) (c.put_each.ensures text)

pub put_parts-returns-in-List : goal.put_parts-returns-in-List
put_parts-returns-in-List g t c = λ text.
    let e = fun_expr_seen text c.args.expr.now in
    let rest = parts_of_each (fun_exprs_seen text c.in-List.items.items) in
    let is = ap (fun_expr_seen text) c.in-List.is ∙ seen_list text c.in-List.field-0 c.in-List.items in
    node_ok c.put_each-in-List.result (lent_exprs_seen text c.args.out.now.items) (lent_exprs_seen text c.push.new.self.items) (lent_exprs_seen text c.put_each-in-List.new.out.items) rest (noted_parts_of e) e
    (lent_more text c.args.out.now.items c.push.new.self.items c.args.expr c.in_ok-push.ensures.items) (first_part e _ rest is refl) (c.put_each-in-List.ensures text)

pub put_parts-returns-in-Tuple : goal.put_parts-returns-in-Tuple
put_parts-returns-in-Tuple g t c = λ text.
    let e = fun_expr_seen text c.args.expr.now in
    let rest = parts_of_each (fun_exprs_seen text c.in-Tuple.items.items) in
    let is = ap (fun_expr_seen text) c.in-Tuple.is ∙ seen_tuple text c.in-Tuple.field-0 c.in-Tuple.items in
    node_ok c.put_each-in-Tuple.result (lent_exprs_seen text c.args.out.now.items) (lent_exprs_seen text c.push.new.self.items) (lent_exprs_seen text c.put_each-in-Tuple.new.out.items) rest (noted_parts_of e) e
    (lent_more text c.args.out.now.items c.push.new.self.items c.args.expr c.in_ok-push.ensures.items) (first_part e _ rest is refl) (c.put_each-in-Tuple.ensures text)

pub put_parts-returns-in_ok-put_each-in-ListOnto : goal.put_parts-returns-in_ok-put_each-in-ListOnto
put_parts-returns-in_ok-put_each-in-ListOnto g t c = λ text.
    let e = fun_expr_seen text c.args.expr.now in
    let a = c.in-ListOnto in
    let rest = parts_of_each (fun_exprs_seen text a.items.items) in
    let others = noted_parts_of (fun_expr_seen text c.deref-in-ListOnto.result.now) in
    let is = ap (fun_expr_seen text) a.is ∙ seen_list_onto text a.field-0 a.items a.tail ∙ ap (λ z. tree.list_onto a.field-0 (fun_exprs_seen text a.items.items) (fun_expr_seen text z)) (sym c.deref-in-ListOnto.ensures) in
    node_of_two_ok c.put_parts-in-ListOnto.result (lent_exprs_seen text c.args.out.now.items) (lent_exprs_seen text c.push.new.self.items) (lent_exprs_seen text c.put_each-in-ListOnto.new.out.items) (lent_exprs_seen text c.put_parts-in-ListOnto.new.out.items) rest others (noted_parts_of e) e
    (lent_more text c.args.out.now.items c.push.new.self.items c.args.expr c.in_ok-push.ensures.items) (first_part e _ (rest ++ others) is refl) (c.in_ok-put_each-in-ListOnto.ensures text) (c.put_parts-in-ListOnto.ensures text)

pub put_parts-returns-in_ok-put_parts-in-Between : goal.put_parts-returns-in_ok-put_parts-in-Between
put_parts-returns-in_ok-put_parts-in-Between g t c = λ text.
    let e = fun_expr_seen text c.args.expr.now in
    let a = c.in-Between in
    let rest = noted_parts_of (fun_expr_seen text c.deref-in-Between.result.now) in
    let others = noted_parts_of (fun_expr_seen text c.deref-in-Between-2.result.now) in
    let is = ap (fun_expr_seen text) a.is ∙ seen_between text a.field-0 a.field-1 a.left a.right
    ∙ ap (λ z. tree.between a.field-0 (operator_seen a.field-1) (fun_expr_seen text z) (fun_expr_seen text (Rattle.std.proofs.Common.box_value a.right))) (sym c.deref-in-Between.ensures)
    ∙ ap (λ z. tree.between a.field-0 (operator_seen a.field-1) (fun_expr_seen text c.deref-in-Between.result.now) (fun_expr_seen text z)) (sym c.deref-in-Between-2.ensures) in
    node_of_two_ok c.put_parts-in-Between-2.result (lent_exprs_seen text c.args.out.now.items) (lent_exprs_seen text c.push.new.self.items) (lent_exprs_seen text c.put_parts-in-Between.new.out.items) (lent_exprs_seen text c.put_parts-in-Between-2.new.out.items) rest others (noted_parts_of e) e
    (lent_more text c.args.out.now.items c.push.new.self.items c.args.expr c.in_ok-push.ensures.items) (first_part e _ (rest ++ others) is refl) (c.in_ok-put_parts-in-Between.ensures text) (c.put_parts-in-Between-2.ensures text)
