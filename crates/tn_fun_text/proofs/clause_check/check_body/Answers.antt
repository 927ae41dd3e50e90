use Rattle.std.proofs.Common.{Err, length, sym, subst}
use Rattle.tn_term.specs.Views.{trees_of}
use Rattle.tn_spec.specs.Views.{dialect_of}
use Rattle.def_fun.specs.FunTexts.{body_printed}
use Rattle.tn_fun_text.specs.Clauses.{no_fun_in, SaysNoFun}
use Rattle.tn_fun_text.proofs.Places.{empty, not_empty}
use Rattle.tn_fun_text.proofs.ClauseChecks.{empty_body_has, body_of}
use Rattle.tn_fun_text.proofs.clause_check.check_body.Goals as goal

pub returns-then-is_empty : goal.returns-then-is_empty
returns-then-is_empty g c =
    let d = dialect_of c.args.dialect in
    let xs = c.args.terms.now.items in
    subst (λ f. SaysNoFun {U = Unit {0}} (no_fun_in (body_printed d c.args.clause (trees_of xs))) (Err f)) (sym c.in_part.ensures)
    (empty_body_has d c.args.clause xs (empty c.is_empty.result _ (length xs) c.is_empty.ensures c.if-is_empty.true c.args.terms.now.ok.0))

pub returns : goal.returns
returns g c =
    let d = dialect_of c.args.dialect in
    let xs = c.args.terms.now.items in
    subst (λ r. SaysNoFun (no_fun_in r) c.check_parts.result) (sym (body_of d c.args.clause xs (not_empty c.is_empty.result _ (length xs) c.is_empty.ensures c.if-is_empty.false c.args.terms.now.ok.0))) c.check_parts.ensures
