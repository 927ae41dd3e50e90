use Rattle.std.proofs.Common.{◌∙◌, [], codes, if◌then◌else◌, Some, None, sym, ap, arith}
use Rattle.def_wording.specs.ShapeTexts.{unfit_part, again_among}
use Rattle.tn_term.specs.Views.{tree_of}
use Rattle.tn_refusal.proofs.Firsts.{found_here, found_later, found_nowhere}
use Rattle.tn_refusal.proofs.shape_reasons.repeated_reason.Goals as goal

pub returns-then-stands_among : goal.returns-then-stands_among
returns-then-stands_among g c =
    let t = tree_of c.index-terms-i.result in
    found_here again_among tree_of [] c.args.terms.now c.loop-i.i c.index-terms-i.result _ (omega arith) c.index-terms-i.is
    (ap (λ b. if b then Some (unfit_part (codes "Params") (codes " must be distinct") t) else None) (sym c.stands_among.ensures ∙ c.if-stands_among.true)) c.loop-i.invariant

pub loop-i-preserved : goal.loop-i-preserved
loop-i-preserved g c =
    let t = tree_of c.index-terms-i.result in
    found_later again_among tree_of [] c.args.terms.now c.loop-i.i c.index-terms-i.result (omega arith) c.index-terms-i.is
    (ap (λ b. if b then Some (unfit_part (codes "Params") (codes " must be distinct") t) else None) (sym c.stands_among.ensures ∙ c.if-stands_among.false)) c.loop-i.invariant

pub returns : goal.returns
returns g c = found_nowhere again_among tree_of [] c.args.terms.now c.loop-i.i (omega arith) c.loop-i.invariant
