use Rattle.std.proofs.Common.{◌∙◌, sym, ap}
use Rattle.tn_head.specs.Answers.{found_seen}
use Rattle.tn_spec.specs.Views.{dialect_of, clause_seen}
use Rattle.tn_action.specs.Views.{context_seen}
use Rattle.tn_verdict.specs.Views.{head_reasons_seen}
use Rattle.tn_verdict.proofs.Steps.{no-head-reason}
use Rattle.tn_verdict.proofs.clauses.verdict.Goals as goal

pub unreachable-requires : goal.unreachable-requires
unreachable-requires g c =
    no-head-reason (dialect_of c.args.dialect) (clause_seen c.args.clause.now) (context_seen c.args.context.now)
    (sym c.in_ok-bindings.ensures.computed ∙ ap found_seen c.in_default.is) (sym c.in_ok-why.ensures ∙ ap head_reasons_seen c.in-None.is)
