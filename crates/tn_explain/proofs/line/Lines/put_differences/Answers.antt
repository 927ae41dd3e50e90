use Rattle.std.proofs.Common.{◌++◌, [], map, sym, ap, append-nil}
use Rattle.def_explain.specs.Differences.{evaluates_from_right, faults_in_logic, reads_no_list}
use Rattle.tn_spec.specs.Views.{dialect_of}
use Rattle.tn_action.specs.Views.{context_seen, effect_seen}
use Rattle.tn_difference.specs.declared.differences.Difference.TheVariants.{NodeEnds, ReadsFreed, SuppressesMessage, LeavesNoMark, IgnoresSilent}
use Rattle.tn_explain.specs.LineParts.{differs_where, body_difference_line}
use Rattle.tn_text.proofs.Growth.{grows_on}
use Rattle.tn_explain.proofs.DifferenceLines.{each_of_body}
use Rattle.tn_explain.proofs.LineTexts.{on_ok, more, other}
use Rattle.tn_explain.proofs.line.Lines.put_differences.Goals as goal

pub returns-clause-ok : goal.returns-clause-ok
returns-clause-ok g c =
    let n = c.args.self.now.name.now in
    let d = c.args.dialect in
    let k = c.args.context.now in
    let es = c.args.effects.now in
    let order = differs_where c.args.of_clause.order evaluates_from_right in
    let logic = differs_where c.args.of_clause.logic faults_in_logic in
    let list = differs_where c.args.of_clause.list reads_no_list in
    let one = body_difference_line NodeEnds d k es in
    let two = body_difference_line ReadsFreed d k es in
    let three = body_difference_line SuppressesMessage d k es in
    let four = body_difference_line LeavesNoMark d k es in
    let five = body_difference_line IgnoresSilent d k es in
    on_ok c.put_body_difference-5.result _ _
    (λ made. other n (order ++ (logic ++ (list ++ (one ++ (two ++ (three ++ (four ++ (five ++ [])))))))) _ _ _ (ap (λ ls. order ++ (logic ++ (list ++ ls))) (sym (each_of_body (dialect_of d) (context_seen k) (map effect_seen es))))
    (more n order (logic ++ (list ++ (one ++ (two ++ (three ++ (four ++ (five ++ []))))))) _ _ _ c.in_ok-put_where_differs.ensures.ok
    (more n logic (list ++ (one ++ (two ++ (three ++ (four ++ (five ++ [])))))) _ _ _ c.in_ok-put_where_differs-2.ensures.ok
    (more n list (one ++ (two ++ (three ++ (four ++ (five ++ []))))) _ _ _ c.in_ok-put_where_differs-3.ensures.ok
    (more n one (two ++ (three ++ (four ++ (five ++ [])))) _ _ _ c.in_ok-put_body_difference.ensures.ok
    (more n two (three ++ (four ++ (five ++ []))) _ _ _ c.in_ok-put_body_difference-2.ensures.ok
    (more n three (four ++ (five ++ [])) _ _ _ c.in_ok-put_body_difference-3.ensures.ok
    (more n four (five ++ []) _ _ _ c.in_ok-put_body_difference-4.ensures.ok
    (other n five (five ++ []) _ _ (sym (append-nil five)) made)))))))))
    c.put_body_difference-5.ensures.ok

pub returns-clause-grows : goal.returns-clause-grows
returns-clause-grows g c =
    grows_on (grows_on (grows_on c.put_where_differs.ensures.grows c.put_where_differs-2.ensures.grows) c.put_where_differs-3.ensures.grows)
    (grows_on (grows_on c.put_body_difference.ensures.grows c.put_body_difference-2.ensures.grows) (grows_on (grows_on c.put_body_difference-3.ensures.grows c.put_body_difference-4.ensures.grows) c.put_body_difference-5.ensures.grows))

pub returns-in_err-put_body_difference-3-clause-grows : goal.returns-in_err-put_body_difference-3-clause-grows
returns-in_err-put_body_difference-3-clause-grows g c = grows_on (grows_on (grows_on (grows_on (grows_on c.put_where_differs.ensures.grows c.put_where_differs-2.ensures.grows) c.put_where_differs-3.ensures.grows) c.put_body_difference.ensures.grows) c.put_body_difference-2.ensures.grows) c.put_body_difference-3.ensures.grows

pub returns-in_err-put_body_difference-4-clause-grows : goal.returns-in_err-put_body_difference-4-clause-grows
returns-in_err-put_body_difference-4-clause-grows g c = grows_on (grows_on (grows_on (grows_on (grows_on (grows_on c.put_where_differs.ensures.grows c.put_where_differs-2.ensures.grows) c.put_where_differs-3.ensures.grows) c.put_body_difference.ensures.grows) c.put_body_difference-2.ensures.grows) c.put_body_difference-3.ensures.grows) c.put_body_difference-4.ensures.grows
