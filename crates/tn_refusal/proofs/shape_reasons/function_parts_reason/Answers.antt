use Rattle.std.proofs.Common.{◌∙◌}
use Rattle.def_wording.specs.ShapeTexts.{names_reason, visibility_reason, params_reason}
use Rattle.tn_term.specs.Views.{tree_of}
use Rattle.tn_refusal.proofs.ShapeReasons.{or_seen, or_of_three}
use Rattle.tn_refusal.proofs.shape_reasons.function_parts_reason.Goals as goal

pub returns : goal.returns
returns g c =
    or_seen c.or.result c.params_reason.result c.or-2.result c.or-2.ensures (or_seen c.names_reason.result c.visibility_reason.result c.or.result c.or.ensures c.names_reason.ensures c.visibility_reason.ensures) c.params_reason.ensures
    ∙ or_of_three (names_reason (tree_of c.args.home.now) (tree_of c.args.function.now)) (visibility_reason (tree_of c.args.visibility.now)) (params_reason (tree_of c.args.parameters.now))
