-- What a node does otherwise at a clause that fires, and whether that leaves open what a session reports.
use Rattle.std.specs.Prelude.{◌≡◌, Bool, ◌||◌, List, map}
use Rattle.std.specs.List.{list_any}
use Rattle.def_spec.specs.Expressions.{effects_of_all}
use Rattle.def_explain.specs.Differences.{one_shows_order, list_differs, body_differences, clause_differences}
use Rattle.def_running_node.specs.NodeRuns.{is_open_difference}
use Rattle.tn_head.specs.Views.{bindings_seen}
use Rattle.tn_head.specs.declared.bindings.Bindings.{Bindings}
use Rattle.tn_spec.specs.Views.{dialect_of, clause_seen}
use Rattle.tn_spec.specs.declared.spec.Clause.{Clause}
use Rattle.tn_spec.specs.declared.func.Dialect.{Dialect}
use Rattle.tn_action.specs.Views.{context_seen, effect_seen}
use Rattle.tn_action.specs.declared.context.Context.{Context}
use Rattle.tn_action.specs.declared.effect.Effect.{Effect}
use Rattle.tn_difference.specs.Logic.{logic_of_clause}
use Rattle.tn_running_node.specs.declared.clause.ClauseDifferences.{ClauseDifferences}

-- they are those of the clause
pub record AreOfClause {A B : Type 0} (d : Dialect) (k : Clause A) (b : Bindings A B) (c : Context A) (these : ClauseDifferences) : Type 0 where
  pub order : these.order ≡ one_shows_order (clause_seen k).body
  pub logic : these.logic ≡ logic_of_clause d k b c
  pub list : these.list ≡ list_differs (dialect_of d) (clause_seen k)

-- one of them, or one by the effects, leaves it open
abbrev pub opens_with : {A : Type 0} → ClauseDifferences → Dialect → Context A → List (Effect A) → Bool
opens_with these d c es = these.order || (these.logic || (these.list || list_any is_open_difference (body_differences (dialect_of d) (context_seen c) (map effect_seen es))))

-- where the clause fires with this binding
abbrev pub opens_where_fired : {A B : Type 0} → Dialect → Clause A → Bindings A B → Context A → Bool
opens_where_fired d k b c =
    list_any is_open_difference (clause_differences (dialect_of d) (clause_seen k) (bindings_seen b) (context_seen c) (effects_of_all (dialect_of d) (bindings_seen b) (context_seen c) (clause_seen k).body))
