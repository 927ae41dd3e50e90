use Rattle.std.proofs.Common.{◌∙◌, Some, sym, ap}
use Rattle.tn_head.specs.Answers.{found_seen}
use Rattle.tn_head.specs.Views.{bindings_seen}
use Rattle.tn_spec.specs.Views.{dialect_of, clause_seen}
use Rattle.tn_action.specs.Views.{context_seen}
use Rattle.tn_running_node.proofs.FiringClauses.{fires_with, fails_by_head, fails_by_conditions}
use Rattle.tn_running_node.proofs.firing_bindings.firing_bindings.Goals as goal

pub returns-in_default : goal.returns-in_default
returns-in_default g c =
    fails_by_head (dialect_of c.args.dialect) (context_seen c.args.context.now) (clause_seen c.args.clause.now) (sym c.in_ok-bindings.ensures.computed ∙ ap found_seen c.in_default.is)

pub returns-then-not-branch : goal.returns-then-not-branch
returns-then-not-branch g c =
    fails_by_conditions (dialect_of c.args.dialect) (context_seen c.args.context.now) (clause_seen c.args.clause.now) (bindings_seen c.in_ok-bindings-2.field-0.now)
    (sym c.in_ok-bindings.ensures.computed ∙ ap found_seen c.in-Some.is ∙ ap (λ b. Some (bindings_seen b)) (sym c.in_ok-bindings-2.ensures)) (sym c.in_ok-all_hold.ensures ∙ c.if-not-branch.true)

pub returns : goal.returns
returns g c =
    fires_with (dialect_of c.args.dialect) (context_seen c.args.context.now) (clause_seen c.args.clause.now) (bindings_seen c.in_ok-bindings-2.field-0.now)
    (sym c.in_ok-bindings.ensures.computed ∙ ap found_seen c.in-Some.is ∙ ap (λ b. Some (bindings_seen b)) (sym c.in_ok-bindings-2.ensures)) (sym c.in_ok-all_hold.ensures ∙ c.if-not-branch.false)
