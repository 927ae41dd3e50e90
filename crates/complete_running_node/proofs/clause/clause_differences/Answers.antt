use Rattle.std.proofs.Common.{◌≡◌}
use Rattle.complete_running_node.proofs.Both.{if_both}
use Rattle.complete_running_node.proofs.SameKinds.{same_differences}
use Rattle.complete_running_node.proofs.clause.clause_differences.Goals as goal

pub returns : goal.returns
returns g c =
    if_both c.clause_differences-first.result c.clause_differences-second.result _ _ (λ x y. x ≡ y)
    (λ x y h i. same_differences c.args.dialect _ _ _ _ _ _ c.requires.clauses c.requires.bindings c.requires.contexts x y h i)
    c.clause_differences-first.ensures c.clause_differences-second.ensures
