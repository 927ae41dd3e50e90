use Rattle.std.proofs.Common.{sym, subst}
use Rattle.def_spec.specs.Outcome.{IsOutcome}
use Rattle.def_spec.proofs.Outcomes.{outcome_is_computed}
use Rattle.tn_spec.specs.Wholes.{spec_seen}
use Rattle.tn_action.specs.Views.{context_seen}
use Rattle.tn_action.proofs.clauses.outcome.Goals as goal

pub returns-clause-answer : goal.returns-clause-answer
returns-clause-answer g c =
    let spec = spec_seen c.args.spec.now in
    let context = context_seen c.args.context.now in
    subst (IsOutcome spec context) (sym c.in_ok-first_fired.ensures) (outcome_is_computed spec context)
