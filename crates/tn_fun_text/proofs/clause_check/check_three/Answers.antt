use Rattle.tn_term.specs.Views.{tree_of, trees_of}
use Rattle.tn_spec.specs.Views.{dialect_of}
use Rattle.tn_fun_text.proofs.ClauseChecks.{three_says}
use Rattle.tn_fun_text.proofs.clause_check.check_three.Goals as goal

pub returns : goal.returns
returns g c =
    three_says (dialect_of c.args.dialect) c.args.clause (tree_of c.args.head.now) (trees_of c.args.conditions.now.items) (trees_of c.args.body.now.items) _ c.check_body.result c.in_default.ensures.0 c.in_ok-check_parts.ensures c.check_body.ensures
