use Rattle.std.proofs.Common.{◌≡◌, ◌++◌, OnOk, subst}
use Rattle.def_wording.specs.ShapeTexts.{shape_detail}
use Rattle.tn_refusal.proofs.Details.{first_tree, no_first}
use Rattle.tn_refusal.proofs.forms.put_first_shape.Goals as goal

pub returns-then-terms-eq0 : goal.returns-then-terms-eq0
returns-then-terms-eq0 g c = λ t e. absurd (no_first c.args.terms.now t c.if-terms-eq0.true e)

pub returns : goal.returns
returns g c = λ t e.
    subst (λ u. OnOk c.put_shape.result (c.put_shape.new.out.items ≡ c.args.out.now.items ++ shape_detail u)) (first_tree c.args.terms.now c.index-terms-0.result t c.index-terms-0.is e) c.put_shape.ensures
