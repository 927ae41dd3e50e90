use Rattle.std.proofs.Common.{◌∙◌, [], ◌∷◌, map, ap}
use Rattle.def_text.specs.Faults.{misplaced, too_deep, too_large}
use Rattle.def_text.proofs.Either.{script_one}
use Rattle.tn_term.specs.Views.{tree_of}
use Rattle.tn_refusal.proofs.RefusedItems.{long_no_terms, denied_no_terms}
use Rattle.tn_refusal.proofs.forms.put_shapeless.Goals as goal

pub returns-in-Ok : goal.returns-in-Ok
returns-in-Ok g c = λ t s.
    c.put_first_shape.ensures t (ap (map (tree_of {A = g.row.A.Denot})) c.deref.ensures.value ∙ script_one c.args.form_text.now (map (tree_of {A = g.row.A.Denot}) c.in-Ok.terms.items) (t ∷ []) c.in-Ok.ensures s)

pub returns-in-Err-TooLong : goal.returns-in-Err-TooLong
returns-in-Err-TooLong g c = λ t s. absurd (long_no_terms c.args.form_text.now (rw c.in-Err-TooLong.field-0-is at c.in-Err-TooLong.ensures) (t ∷ []) s)

pub returns-in-Err-Token : goal.returns-in-Err-Token
returns-in-Err-Token g c = λ t s. absurd (denied_no_terms c.args.form_text.now misplaced _ (rw c.in-Err-Token.field-0-is at c.in-Err-Token.ensures) (t ∷ []) s)

pub returns-in-Err-TooDeep : goal.returns-in-Err-TooDeep
returns-in-Err-TooDeep g c = λ t s. absurd (denied_no_terms c.args.form_text.now too_deep _ (rw c.in-Err-TooDeep.field-0-is at c.in-Err-TooDeep.ensures) (t ∷ []) s)

pub returns-in-Err-TooLarge : goal.returns-in-Err-TooLarge
returns-in-Err-TooLarge g c = λ t s. absurd (denied_no_terms c.args.form_text.now too_large _ (rw c.in-Err-TooLarge.field-0-is at c.in-Err-TooLarge.ensures) (t ∷ []) s)
