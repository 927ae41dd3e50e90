use Rattle.std.proofs.Common.{◌∙◌, codes, map}
use Rattle.def_wording.specs.ShapeTexts.{length_reason, variables_reason, repeated_reason}
use Rattle.tn_term.specs.Views.{tree_of}
use Rattle.tn_refusal.proofs.ShapeReasons.{or_seen, or_of_three}
use Rattle.tn_refusal.proofs.shape_reasons.params_list_reason.Goals as goal

pub returns : goal.returns
returns g c =
    let ts = map (tree_of {A = g.row.A.Denot}) c.args.terms.now in
    or_seen c.or.result c.repeated_reason.result c.or-2.result c.or-2.ensures (or_seen c.length_reason.result c.variables_reason.result c.or.result c.or.ensures c.length_reason.ensures c.variables_reason.ensures) c.repeated_reason.ensures
    ∙ or_of_three (length_reason (codes "a function has at most 255 parameters, found ") ts) (variables_reason ts) (repeated_reason ts)
