use Rattle.std.proofs.Common.{◌≡◌, ◌∙◌, ◌++◌, [], map, sym, ap, append-nil}
use Rattle.def_explain.specs.Differences.{evaluates_from_right, faults_in_logic, reads_no_list, one_shows_order, list_differs}
use Rattle.tn_spec.specs.Views.{dialect_of, clause_seen}
use Rattle.tn_action.specs.Views.{context_seen, effect_seen}
use Rattle.tn_text.proofs.Growth.{grows_on}
use Rattle.tn_difference.specs.Differences.{difference_line_where}
use Rattle.tn_head.specs.Views.{bindings_seen}
use Rattle.tn_difference.specs.Logic.{logic_of_clause}
use Rattle.tn_verdict.specs.SpecTests.{line_of_difference}
use Rattle.tn_difference.specs.declared.differences.Difference.TheVariants.{NodeEnds, ReadsFreed, SuppressesMessage, LeavesNoMark, IgnoresSilent, EndsTest}
use Rattle.tn_verdict.proofs.ClauseTexts.{each_where}
use Rattle.tn_verdict.proofs.Pieces.{after_ok, read_as}
use Rattle.tn_verdict.proofs.spec_test.SpecTest.put_differences.Goals as goal

pub returns-clause-ok : goal.returns-clause-ok
returns-clause-ok g c =
    let self = c.args.self.now in
    let effects = c.args.effects.now in
    let k = clause_seen c.args.clause.now in
    let o = c.args.out.now.items in
    let done = c.put_body_difference-6.result in
    let last = c.put_body_difference-6.new.out.items in
    let zero = difference_line_where (one_shows_order k.body) evaluates_from_right in
    let bs = bindings_seen c.args.bindings.now in
    let logic = difference_line_where (logic_of_clause self.spec.now.dialect c.args.clause.now c.args.bindings.now self.context.now) faults_in_logic in
    let list = difference_line_where (list_differs (dialect_of self.spec.now.dialect) k) reads_no_list in
    let one = line_of_difference self effects NodeEnds in
    let two = line_of_difference self effects ReadsFreed in
    let three = line_of_difference self effects SuppressesMessage in
    let four = line_of_difference self effects LeavesNoMark in
    let five = line_of_difference self effects IgnoresSilent in
    let six = line_of_difference self effects EndsTest in
    let first : c.put_where_differs.new.out.items ≡ o ++ zero = c.in_ok-put_where_differs.ensures.ok ∙ ap (λ b. o ++ difference_line_where b evaluates_from_right) c.order_differs.ensures in
    let second : c.put_where_differs-2.new.out.items ≡ c.put_where_differs.new.out.items ++ logic =
    c.in_ok-put_where_differs-2.ensures.ok ∙ ap (λ b. c.put_where_differs.new.out.items ++ difference_line_where b faults_in_logic) c.in_ok-logic.ensures in
    let third : c.put_where_differs-3.new.out.items ≡ c.put_where_differs-2.new.out.items ++ list =
    c.in_ok-put_where_differs-3.ensures.ok ∙ ap (λ b. c.put_where_differs-2.new.out.items ++ difference_line_where b reads_no_list) c.list_differs-list.ensures in
    read_as done o _ _ last (sym (each_where (dialect_of self.spec.now.dialect) k bs (context_seen self.context.now) (map effect_seen effects)))
    (after_ok done o zero (logic ++ (list ++ (one ++ (two ++ (three ++ (four ++ (five ++ (six ++ [])))))))) c.put_where_differs.new.out.items last first
    (after_ok done c.put_where_differs.new.out.items logic (list ++ (one ++ (two ++ (three ++ (four ++ (five ++ (six ++ []))))))) c.put_where_differs-2.new.out.items last second
    (after_ok done c.put_where_differs-2.new.out.items list (one ++ (two ++ (three ++ (four ++ (five ++ (six ++ [])))))) c.put_where_differs-3.new.out.items last third
    (after_ok done c.put_where_differs-3.new.out.items one (two ++ (three ++ (four ++ (five ++ (six ++ []))))) c.put_body_difference.new.out.items last c.in_ok-put_body_difference.ensures.ok
    (after_ok done c.put_body_difference.new.out.items two (three ++ (four ++ (five ++ (six ++ [])))) c.put_body_difference-2.new.out.items last c.in_ok-put_body_difference-2.ensures.ok
    (after_ok done c.put_body_difference-2.new.out.items three (four ++ (five ++ (six ++ []))) c.put_body_difference-3.new.out.items last c.in_ok-put_body_difference-3.ensures.ok
    (after_ok done c.put_body_difference-3.new.out.items four (five ++ (six ++ [])) c.put_body_difference-4.new.out.items last c.in_ok-put_body_difference-4.ensures.ok
    (after_ok done c.put_body_difference-4.new.out.items five (six ++ []) c.put_body_difference-5.new.out.items last c.in_ok-put_body_difference-5.ensures.ok
    (read_as done c.put_body_difference-5.new.out.items six (six ++ []) last (sym (append-nil six)) c.put_body_difference-6.ensures.ok)))))))))

pub returns-clause-grows : goal.returns-clause-grows
returns-clause-grows g c =
    grows_on (grows_on (grows_on c.put_where_differs.ensures.grows c.put_where_differs-2.ensures.grows) c.put_where_differs-3.ensures.grows)
    (grows_on (grows_on c.put_body_difference.ensures.grows c.put_body_difference-2.ensures.grows) (grows_on (grows_on c.put_body_difference-3.ensures.grows c.put_body_difference-4.ensures.grows) (grows_on c.put_body_difference-5.ensures.grows c.put_body_difference-6.ensures.grows)))

pub returns-in_err-put_body_difference-3-clause-grows : goal.returns-in_err-put_body_difference-3-clause-grows
returns-in_err-put_body_difference-3-clause-grows g c = grows_on (grows_on (grows_on (grows_on (grows_on c.put_where_differs.ensures.grows c.put_where_differs-2.ensures.grows) c.put_where_differs-3.ensures.grows) c.put_body_difference.ensures.grows) c.put_body_difference-2.ensures.grows) c.put_body_difference-3.ensures.grows

pub returns-in_err-put_body_difference-4-clause-grows : goal.returns-in_err-put_body_difference-4-clause-grows
returns-in_err-put_body_difference-4-clause-grows g c = grows_on (grows_on (grows_on (grows_on (grows_on (grows_on c.put_where_differs.ensures.grows c.put_where_differs-2.ensures.grows) c.put_where_differs-3.ensures.grows) c.put_body_difference.ensures.grows) c.put_body_difference-2.ensures.grows) c.put_body_difference-3.ensures.grows) c.put_body_difference-4.ensures.grows

pub returns-in_err-put_body_difference-5-clause-grows : goal.returns-in_err-put_body_difference-5-clause-grows
returns-in_err-put_body_difference-5-clause-grows g c = grows_on (grows_on (grows_on (grows_on (grows_on (grows_on (grows_on c.put_where_differs.ensures.grows c.put_where_differs-2.ensures.grows) c.put_where_differs-3.ensures.grows) c.put_body_difference.ensures.grows) c.put_body_difference-2.ensures.grows) c.put_body_difference-3.ensures.grows) c.put_body_difference-4.ensures.grows) c.put_body_difference-5.ensures.grows
