use Rattle.std.proofs.Common.{◌-◌, subst}
use Rattle.def_refusal.proofs.OneItem.{item_one}
use Rattle.tn_refusal.specs.Refusals.{refusal_of}
use Rattle.tn_refusal.specs.Locations.{IsItemMark}
use Rattle.tn_refusal.proofs.location.form_mark.Goals as goal

pub returns-clause-place : goal.returns-clause-place
returns-clause-place g c = λ listable o is.
    subst (λ p. IsItemMark c.args.text.now c.args.form p c.item_location.result)
    (item_one c.args.text.now (refusal_of c.args.refusal) _ o c.in_ok-item.ensures.item is) (c.item_location.ensures listable)

pub returns-clause-form : goal.returns-clause-form
returns-clause-form g c = λ ts s. c.bytes_of_form.ensures ts (c.args.form - 1) s c.before_form-before.ensures.tokens

pub returns-clause-forms : goal.returns-clause-forms
returns-clause-forms g c = c.in_ok-item.ensures.forms
