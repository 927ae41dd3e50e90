use Rattle.std.proofs.Common.{◌∙◌, sym, ap}
use Rattle.def_explain.specs.Differences.{body_differs}
use Rattle.tn_spec.specs.Views.{dialect_of}
use Rattle.tn_action.specs.Views.{context_seen}
use Rattle.tn_difference.specs.Differences.{difference_seen}
use Rattle.complete_code.proofs.differences.body_differs.Goals as goal

pub returns : goal.returns
returns g c =
    c.body_differs-first.ensures ∙ ap (λ es. body_differs (dialect_of c.args.dialect) (context_seen c.args.context.now) es (difference_seen c.args.difference)) c.requires
    ∙ sym c.body_differs-second.ensures
