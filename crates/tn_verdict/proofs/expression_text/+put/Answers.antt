use Rattle.std.proofs.Common.{◌∙◌, [], ◌∷◌, ◌++◌, codes, ap}
use Rattle.def_term.specs.Text.{comma_list, each_after_comma}
use Rattle.def_spec.specs.Expressions as ex
use Rattle.def_trap.specs.Actions.{action_name}
use Rattle.def_explain.specs.Spellings.{function_name}
use Rattle.tn_spec.specs.Views.{func_of, action_of, expr_seen, expr_list}
use Rattle.tn_spec.proofs.Views.{expr_seen_whole_list, expr_seen_all_bound, expr_seen_tuple, expr_seen_list, expr_seen_call, expr_seen_and_also, expr_seen_or_else, expr_seen_perform}
use Rattle.tn_verdict.specs.ExpressionTexts.{spelled_list}
use Rattle.tn_verdict.proofs.Pieces.{put_ok, two_ok, three_ok}
use Rattle.tn_verdict.proofs.ExpressionTexts.{spelled, tuple_text, list_text, named_text, and_also_text, or_else_text, whole_list_text, all_bound_text}
use Rattle.tn_verdict.proofs.expression_text.+put.Goals as goal

pub put_expr-returns-in-WholeList-clause-ok : goal.put_expr-returns-in-WholeList-clause-ok
put_expr-returns-in-WholeList-clause-ok g t c =
    let o = c.args.out.now.items in
    let done = c.extend_from_slice.result in
    let d = c.extend_from_slice.new.self.items in
    spelled c.args.expr.now (ex.whole_list) done o (codes "'$_'") d (ap (λ e. expr_seen {A = g.row.A.Denot} e) c.in-WholeList.is ∙ expr_seen_whole_list g.row.A.Denot) (whole_list_text) (put_ok done o (codes "'$_'") d c.extend_from_slice.ensures.items)

pub put_expr-returns-in-AllBound-clause-ok : goal.put_expr-returns-in-AllBound-clause-ok
put_expr-returns-in-AllBound-clause-ok g t c =
    let o = c.args.out.now.items in
    let done = c.extend_from_slice-in-AllBound.result in
    let d = c.extend_from_slice-in-AllBound.new.self.items in
    spelled c.args.expr.now (ex.all_bound) done o (codes "'$$'") d (ap (λ e. expr_seen {A = g.row.A.Denot} e) c.in-AllBound.is ∙ expr_seen_all_bound g.row.A.Denot) (all_bound_text) (put_ok done o (codes "'$$'") d c.extend_from_slice-in-AllBound.ensures.items)

pub put_expr-returns-in-Tuple-clause-ok : goal.put_expr-returns-in-Tuple-clause-ok
put_expr-returns-in-Tuple-clause-ok g t c =
    let o = c.args.out.now.items in
    let done = c.put_tuple.result in
    let d = c.put_tuple.new.out.items in
    let ts = spelled_list c.in-Tuple.exprs in
    spelled c.args.expr.now (ex.tuple_of (expr_list c.in-Tuple.exprs)) done o (123 ∷ 123 ∷ (comma_list ts ++ 125 ∷ 125 ∷ [])) d (ap (λ e. expr_seen {A = g.row.A.Denot} e) c.in-Tuple.is ∙ expr_seen_tuple c.in-Tuple.exprs) (tuple_text ts) (two_ok done o (123 ∷ 123 ∷ comma_list ts) (125 ∷ 125 ∷ []) d c.put_tuple.ensures.ok)

pub put_expr-returns-in-List-clause-ok : goal.put_expr-returns-in-List-clause-ok
put_expr-returns-in-List-clause-ok g t c =
    let o = c.args.out.now.items in
    let done = c.put_list.result in
    let d = c.put_list.new.out.items in
    let ts = spelled_list c.in-List.exprs in
    spelled c.args.expr.now (ex.list_of (expr_list c.in-List.exprs)) done o (91 ∷ (comma_list ts ++ 93 ∷ [])) d (ap (λ e. expr_seen {A = g.row.A.Denot} e) c.in-List.is ∙ expr_seen_list c.in-List.exprs) (list_text ts) (two_ok done o (91 ∷ comma_list ts) (93 ∷ []) d c.put_list.ensures.ok)

pub put_expr-returns-in-Call-clause-ok : goal.put_expr-returns-in-Call-clause-ok
put_expr-returns-in-Call-clause-ok g t c =
    let o = c.args.out.now.items in
    let done = c.put_named.result in
    let d = c.put_named.new.out.items in
    let ts = spelled_list c.in-Call.exprs in
    spelled c.args.expr.now (ex.call (func_of c.in-Call.func) (expr_list c.in-Call.exprs)) done o (123 ∷ (c.function_text.result.now ++ (each_after_comma ts ++ 125 ∷ []))) d (ap (λ e. expr_seen {A = g.row.A.Denot} e) c.in-Call.is ∙ expr_seen_call c.in-Call.func c.in-Call.exprs) (named_text (c.function_text.result.now) (function_name (func_of c.in-Call.func)) ts c.function_text.ensures) (three_ok done o (123 ∷ c.function_text.result.now) (each_after_comma ts) (125 ∷ []) d c.put_named.ensures.ok)

pub put_expr-returns-in-AndAlso-clause-ok : goal.put_expr-returns-in-AndAlso-clause-ok
put_expr-returns-in-AndAlso-clause-ok g t c =
    let o = c.args.out.now.items in
    let done = c.put_named-in-AndAlso.result in
    let d = c.put_named-in-AndAlso.new.out.items in
    let ts = spelled_list c.in-AndAlso.exprs in
    spelled c.args.expr.now (ex.and_also (expr_list c.in-AndAlso.exprs)) done o (123 ∷ (codes "'andalso'" ++ (each_after_comma ts ++ 125 ∷ []))) d (ap (λ e. expr_seen {A = g.row.A.Denot} e) c.in-AndAlso.is ∙ expr_seen_and_also c.in-AndAlso.exprs) (named_text (codes "'andalso'") (codes "andalso") ts and_also_text) (three_ok done o (123 ∷ codes "'andalso'") (each_after_comma ts) (125 ∷ []) d c.put_named-in-AndAlso.ensures.ok)

pub put_expr-returns-in-OrElse-clause-ok : goal.put_expr-returns-in-OrElse-clause-ok
put_expr-returns-in-OrElse-clause-ok g t c =
    let o = c.args.out.now.items in
    let done = c.put_named-in-OrElse.result in
    let d = c.put_named-in-OrElse.new.out.items in
    let ts = spelled_list c.in-OrElse.exprs in
    spelled c.args.expr.now (ex.or_else (expr_list c.in-OrElse.exprs)) done o (123 ∷ (codes "'orelse'" ++ (each_after_comma ts ++ 125 ∷ []))) d (ap (λ e. expr_seen {A = g.row.A.Denot} e) c.in-OrElse.is ∙ expr_seen_or_else c.in-OrElse.exprs) (named_text (codes "'orelse'") (codes "orelse") ts or_else_text) (three_ok done o (123 ∷ codes "'orelse'") (each_after_comma ts) (125 ∷ []) d c.put_named-in-OrElse.ensures.ok)

pub put_expr-returns-in-Perform-clause-ok : goal.put_expr-returns-in-Perform-clause-ok
put_expr-returns-in-Perform-clause-ok g t c =
    let o = c.args.out.now.items in
    let done = c.put_named-in-Perform.result in
    let d = c.put_named-in-Perform.new.out.items in
    let ts = spelled_list c.in-Perform.exprs in
    spelled c.args.expr.now (ex.perform (action_of c.in-Perform.action) (expr_list c.in-Perform.exprs)) done o (123 ∷ (c.action_text.result.now ++ (each_after_comma ts ++ 125 ∷ []))) d (ap (λ e. expr_seen {A = g.row.A.Denot} e) c.in-Perform.is ∙ expr_seen_perform c.in-Perform.action c.in-Perform.exprs) (named_text (c.action_text.result.now) (action_name (action_of c.in-Perform.action)) ts c.action_text.ensures) (three_ok done o (123 ∷ c.action_text.result.now) (each_after_comma ts) (125 ∷ []) d c.put_named-in-Perform.ensures.ok)
