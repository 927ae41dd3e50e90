use Rattle.std.proofs.Common.{◌∙◌, ap, map}
use Rattle.std.specs.List.{list_any}
use Rattle.def_explain.specs.Differences.{clause_differences}
use Rattle.def_running_node.specs.NodeRuns.{is_open_difference}
use Rattle.tn_head.specs.Views.{bindings_seen}
use Rattle.tn_spec.specs.Views.{dialect_of, clause_seen}
use Rattle.tn_action.specs.Views.{context_seen, effect_seen}
use Rattle.tn_running_node.proofs.OpenClauses.{one_of_clause}
use Rattle.tn_running_node.proofs.opens.fired_opens.Goals as goal

pub returns : goal.returns
returns g c =
    let d = c.args.dialect in
    let k = c.args.clause.now in
    let b = c.args.bindings.now in
    let x = c.args.context.now in
    c.clause_opens.ensures
    ∙ one_of_clause d k b x c.deref.result.now c.in_ok-these.these c.in_ok-these.ensures
    ∙ ap (λ es. list_any is_open_difference (clause_differences (dialect_of d) (clause_seen k) (bindings_seen b) (context_seen x) es)) (ap (map effect_seen) c.deref.ensures.value ∙ c.in_ok-effects.ensures)
