use Rattle.std.proofs.lemmas.Result.{err_from_is_err_and}
use Rattle.tn_term.specs.Views.{tree_of, trees_of}
use Rattle.tn_spec.specs.Views.{dialect_of, head_seen, expr_list}
use Rattle.tn_spec.proofs.Parts.{parts_read, head_fails, conditions_fail, body_fails}
use Rattle.tn_spec.proofs.clauses.clause_of_three.Goals as goal

pub returns : goal.returns
returns g c =
    parts_read (dialect_of c.args.dialect) (tree_of c.args.term.now) (trees_of c.args.conditions.now.items) (trees_of c.args.body.now.items) (head_seen c.in_ok-head.head) (expr_list c.in_ok-conditions.conditions) (expr_list c.in_ok-body.body)
    c.in_ok-head.ensures c.in_ok-conditions.ensures c.in_ok-body.ensures

pub returns-in_err-head : goal.returns-in_err-head
returns-in_err-head g c =
    let p = err_from_is_err_and c.from_residual.result c.from_residual.ensures.1 in
    rw (p.1, p.2)
    (head_fails (dialect_of c.args.dialect) (tree_of c.args.term.now) (trees_of c.args.conditions.now.items) (trees_of c.args.body.now.items) c.in_err-head.field-0.0 c.in_err-head.ensures)

pub returns-in_err-conditions : goal.returns-in_err-conditions
returns-in_err-conditions g c =
    let p = err_from_is_err_and c.from_residual-in_err-conditions.result c.from_residual-in_err-conditions.ensures.1 in
    rw (p.1, p.2)
    (conditions_fail (dialect_of c.args.dialect) (tree_of c.args.term.now) (trees_of c.args.conditions.now.items) (trees_of c.args.body.now.items) (head_seen c.in_ok-head.head) c.in_err-conditions.field-0.0
    c.in_ok-head.ensures c.in_err-conditions.ensures)

pub returns-in_err-body : goal.returns-in_err-body
returns-in_err-body g c =
    let p = err_from_is_err_and c.from_residual-in_err-body.result c.from_residual-in_err-body.ensures.1 in
    rw (p.1, p.2)
    (body_fails (dialect_of c.args.dialect) (tree_of c.args.term.now) (trees_of c.args.conditions.now.items) (trees_of c.args.body.now.items) (head_seen c.in_ok-head.head) (expr_list c.in_ok-conditions.conditions)
    c.in_err-body.field-0.0 c.in_ok-head.ensures c.in_ok-conditions.ensures c.in_err-body.ensures)
