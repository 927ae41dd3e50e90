-- The definitions of values and effects, in what the expressions of one clause are evaluated in.
use Rattle.std.specs.Prelude.{Bool, List, Option, Some, None}
use Rattle.std.specs.declared.alloc.Allocator.{Ghosts}
use Rattle.def_term.specs.Tree.{Tree}
use Rattle.def_spec.specs.Expressions as ex
use Rattle.def_spec.specs.Outcome as definition
use Rattle.tn_spec.specs.Views.{dialect_of}
use Rattle.tn_head.specs.Views.{bindings_seen}
use Rattle.tn_action.specs.Parts.{eval_position_seen}
use Rattle.tn_action.specs.Views.{context_seen}
use Rattle.tn_action.specs.declared.eval_context.EvalContext.{EvalContext}

-- what the clause that fires gives, or what the clauses after it give
abbrev pub first_outcome : Option (List ex.Effect) → definition.Outcome → definition.Outcome
first_outcome None o = o
first_outcome (Some es) o = definition.matched es

module _ {A : Type 0} {G : Ghosts A} (s : EvalContext A G) where
  -- what an expression comes to after some effects
  abbrev pub evaluation_in : ex.Expr → List ex.Effect → ex.Evaluation Tree
  evaluation_in = ex.evaluation (dialect_of s.dialect) (eval_position_seen s.part) (bindings_seen s.bindings.now) (context_seen s.context.now)

  -- several, all of them
  abbrev pub all_in : ex.Exprs → List ex.Effect → ex.Evaluation (List Tree)
  all_in = ex.evaluation_of_all (dialect_of s.dialect) (eval_position_seen s.part) (bindings_seen s.bindings.now) (context_seen s.context.now)

  -- up to the first that isn't true
  abbrev pub while_true_in : ex.Exprs → List ex.Effect → ex.Evaluation Tree
  while_true_in = ex.evaluation_while_true (dialect_of s.dialect) (eval_position_seen s.part) (bindings_seen s.bindings.now) (context_seen s.context.now)

  -- up to the first that is true
  abbrev pub until_true_in : ex.Exprs → List ex.Effect → ex.Evaluation Tree
  until_true_in = ex.evaluation_until_true (dialect_of s.dialect) (eval_position_seen s.part) (bindings_seen s.bindings.now) (context_seen s.context.now)

  abbrev pub each_true_in : ex.Exprs → Bool
  each_true_in = definition.each_true (dialect_of s.dialect) (bindings_seen s.bindings.now) (context_seen s.context.now)

  abbrev pub body_effects_in : ex.Exprs → List ex.Effect
  body_effects_in = ex.effects_of_all (dialect_of s.dialect) (bindings_seen s.bindings.now) (context_seen s.context.now)
