use Rattle.std.proofs.Common.{ap}
use Rattle.def_explain.specs.Verdicts.{verdict_of}
use Rattle.tn_action.specs.Views.{context_seen}
use Rattle.tn_verdict.specs.Views.{verdict_seen}
use Rattle.tn_spec.specs.Views.{dialect_of}
use Rattle.complete_code.proofs.Alike.{ok_alike}
use Rattle.complete_code.proofs.verdict.verdict.Goals as goal

pub returns : goal.returns
returns g c =
    ok_alike verdict_seen verdict_seen c.verdict.result c.verdict-2.result _ _ (ap (λ k. verdict_of (dialect_of c.args.dialect) k (context_seen c.args.context.now)) c.requires)
    c.verdict.ensures c.verdict-2.ensures
