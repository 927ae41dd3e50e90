-- What a node does otherwise at a clause that fires, whatever its effects are.
use Rattle.std.specs.Prelude.{List, ◌++◌, map}
use Rattle.def_explain.specs.Accounts.{Line, differs}
use Rattle.def_explain.specs.Differences.{evaluates_from_right, faults_in_logic, reads_no_list, body_differences}
use Rattle.tn_spec.specs.Views.{dialect_of}
use Rattle.tn_spec.specs.declared.func.Dialect.{Dialect}
use Rattle.tn_action.specs.Views.{context_seen, effect_seen}
use Rattle.tn_action.specs.declared.context.Context.{Context}
use Rattle.tn_action.specs.declared.effect.Effect.{Effect}
use Rattle.tn_explain.specs.LineParts.{differs_where}
use Rattle.tn_running_node.specs.declared.clause.ClauseDifferences.{ClauseDifferences}

-- a line for each, and for each by the effects
abbrev pub lines_with : {A : Type 0} → ClauseDifferences → Dialect → Context A → List (Effect A) → List Line
lines_with these d c es =
    differs_where these.order evaluates_from_right ++ (differs_where these.logic faults_in_logic ++ (differs_where these.list reads_no_list ++ map differs (body_differences (dialect_of d) (context_seen c) (map effect_seen es))))
