use Rattle.tn_refusal.proofs.Details.{told_shape, told_under, told_count}
use Rattle.tn_refusal.proofs.detail.put_detail.Goals as goal

pub returns-in-Form : goal.returns-in-Form
returns-in-Form g c = rw c.in-Form.is (told_shape c.put_shapeless.result c.args.text.now c.args.mark.now.form.now _ c.args.out.now.items c.put_shapeless.new.out.items (rw c.in-Form.is at c.requires.form) c.put_shapeless.ensures)

pub returns-in-Token : goal.returns-in-Token
returns-in-Token g c = rw c.in-Token.is (told_under c.put_token.result _ _ c.put_token.ensures)

pub returns-in-TooDeep : goal.returns-in-TooDeep
returns-in-TooDeep g c = rw c.in-TooDeep.is (told_under c.put_token-in-TooDeep.result _ _ c.put_token-in-TooDeep.ensures)

pub returns-in-TooLarge : goal.returns-in-TooLarge
returns-in-TooLarge g c = rw c.in-TooLarge.is (told_under c.put_token-in-TooLarge.result _ _ c.put_token-in-TooLarge.ensures)

pub returns-in-TooManyForms : goal.returns-in-TooManyForms
returns-in-TooManyForms g c = rw c.in-TooManyForms.is (told_count c.put_form_count.result c.args.text.now c.args.out.now.items c.put_form_count.new.out.items c.put_form_count.ensures)
