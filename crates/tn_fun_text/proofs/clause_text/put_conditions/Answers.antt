use Rattle.std.proofs.Common.{◌≢◌, ◌++◌, [], false, codes, ap, ◌∙◌, length, append_assoc}
use Rattle.def_spec.specs.Expressions.{in_condition}
use Rattle.tn_term.specs.Views.{trees_of}
use Rattle.tn_spec.specs.Views.{dialect_of}
use Rattle.tn_fun_text.specs.Texts.{items_text}
use Rattle.tn_fun_text.proofs.Places.{not_empty}
use Rattle.tn_fun_text.proofs.LastWrites.{on_last}
use Rattle.tn_fun_text.proofs.ExprWritten.{some_conditions}
use Rattle.tn_fun_text.proofs.clause_text.put_conditions.Goals as goal

pub returns : goal.returns
returns g c =
    let d = dialect_of c.args.dialect in
    let o = c.args.out.now.items in
    let xs = c.args.terms.now.items in
    let some : length xs ≢ 0 = not_empty c.is_empty.result _ (length xs) c.is_empty.ensures c.if-is_empty.false c.args.terms.now.ok.0 in
    let each = items_text d in_condition [] false (trees_of xs) in
    on_last c.put_items.result c.extend_from_slice.new.self.items c.put_items.new.out.items each _ c.put_items.ensures
    (ap (λ u. u ++ each) c.in_ok-extend_from_slice.ensures.items ∙ append_assoc o (codes " when ") each ∙ ap (λ u. o ++ u) (some_conditions d xs some))
