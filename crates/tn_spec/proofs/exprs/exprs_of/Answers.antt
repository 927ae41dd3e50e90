use Rattle.std.proofs.Common.{subst}
use Rattle.def_spec.specs.Reading.{exprs_of}
use Rattle.tn_term.specs.Views.{trees_of}
use Rattle.tn_spec.specs.Answers.{IsRead}
use Rattle.tn_spec.specs.Names.{position_seen}
use Rattle.tn_spec.specs.Views.{dialect_of, expr_list}
use Rattle.tn_spec.proofs.exprs.exprs_of.Goals as goal

pub returns : goal.returns
returns g c =
    subst (λ p. IsRead expr_list (exprs_of (dialect_of c.args.dialect) (position_seen c.args.part) p (trees_of c.args.terms.now.items)) c.exprs.result) c.of-variables.ensures c.exprs.ensures
