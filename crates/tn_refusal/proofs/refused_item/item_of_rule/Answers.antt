use Rattle.std.proofs.Common.{◌≤◌, map, sym, ap, ◌∙◌, subst}
use Rattle.std.proofs.lemmas.List.{length-map}
use Rattle.def_script.specs.Limits.{FORMS}
use Rattle.tn_program.specs.Faults.{broken_of}
use Rattle.tn_program.specs.Items.{item_of_fault}
use Rattle.tn_script.specs.Views.{form_of}
use Rattle.tn_refusal.specs.RefusedItems.{IsItemOfBroken}
use Rattle.tn_refusal.proofs.RefusedItems.{item_of_broken, no_item, no_forms_seen, long_no_forms, token_no_forms, deep_no_forms, large_no_forms, shapeless_no_forms, many_no_forms}
use Rattle.tn_refusal.proofs.refused_item.item_of_rule.Goals as goal

pub returns-in_ok-item-in-Ok : goal.returns-in_ok-item-in-Ok
returns-in_ok-item-in-Ok g c =
    let fs = map (form_of {A = g.row.A.Denot}) c.in-Ok.forms.items in
    let few = subst (λ n. n ≤ FORMS) (sym (length-map c.in-Ok.forms.items (form_of {A = g.row.A.Denot}))) c.in-Ok.ensures.1 in
    let is = c.in_ok-item-in-Ok.ensures ∙ ap (λ xs. item_of_fault (map (form_of {A = g.row.A.Denot}) xs) (broken_of c.args.fault)) c.deref.ensures.value in
    record {
      item = subst (IsItemOfBroken c.args.text.now (broken_of c.args.fault)) (sym is) (item_of_broken c.args.text.now fs (broken_of c.args.fault) c.in-Ok.ensures.0 few);
      forms = record { spelled = c.in-Ok.ensures.0; few = few };
    }

pub returns-in-Err-TooLong : goal.returns-in-Err-TooLong
returns-in-Err-TooLong g c =
    let denied = long_no_forms c.args.text.now (rw c.in-Err-TooLong.field-0-is at c.in-Err-TooLong.ensures) in
    record {
      item = no_item c.args.text.now (broken_of c.args.fault) c.of.result.item c.of.ensures.item denied;
      forms = no_forms_seen c.args.text.now _ c.of.ensures.forms denied;
    }

pub returns-in-Err-Token : goal.returns-in-Err-Token
returns-in-Err-Token g c =
    let denied = token_no_forms c.args.text.now _ (rw c.in-Err-Token.field-0-is at c.in-Err-Token.ensures) in
    record {
      item = no_item c.args.text.now (broken_of c.args.fault) c.of-in-Err-Token.result.item c.of-in-Err-Token.ensures.item denied;
      forms = no_forms_seen c.args.text.now _ c.of-in-Err-Token.ensures.forms denied;
    }

pub returns-in-Err-TooDeep : goal.returns-in-Err-TooDeep
returns-in-Err-TooDeep g c =
    let denied = deep_no_forms c.args.text.now _ (rw c.in-Err-TooDeep.field-0-is at c.in-Err-TooDeep.ensures) in
    record {
      item = no_item c.args.text.now (broken_of c.args.fault) c.of-in-Err-TooDeep.result.item c.of-in-Err-TooDeep.ensures.item denied;
      forms = no_forms_seen c.args.text.now _ c.of-in-Err-TooDeep.ensures.forms denied;
    }

pub returns-in-Err-TooLarge : goal.returns-in-Err-TooLarge
returns-in-Err-TooLarge g c =
    let denied = large_no_forms c.args.text.now _ (rw c.in-Err-TooLarge.field-0-is at c.in-Err-TooLarge.ensures) in
    record {
      item = no_item c.args.text.now (broken_of c.args.fault) c.of-in-Err-TooLarge.result.item c.of-in-Err-TooLarge.ensures.item denied;
      forms = no_forms_seen c.args.text.now _ c.of-in-Err-TooLarge.ensures.forms denied;
    }

pub returns-in-Err-Form : goal.returns-in-Err-Form
returns-in-Err-Form g c =
    let denied = shapeless_no_forms c.args.text.now _ (rw c.in-Err-Form.field-0-is at c.in-Err-Form.ensures) in
    record {
      item = no_item c.args.text.now (broken_of c.args.fault) c.of-in-Err-Form.result.item c.of-in-Err-Form.ensures.item denied;
      forms = no_forms_seen c.args.text.now _ c.of-in-Err-Form.ensures.forms denied;
    }

pub returns-in-Err-TooManyForms : goal.returns-in-Err-TooManyForms
returns-in-Err-TooManyForms g c =
    let denied = many_no_forms c.args.text.now (rw c.in-Err-TooManyForms.field-0-is at c.in-Err-TooManyForms.ensures) in
    record {
      item = no_item c.args.text.now (broken_of c.args.fault) c.of-in-Err-TooManyForms.result.item c.of-in-Err-TooManyForms.ensures.item denied;
      forms = no_forms_seen c.args.text.now _ c.of-in-Err-TooManyForms.ensures.forms denied;
    }
