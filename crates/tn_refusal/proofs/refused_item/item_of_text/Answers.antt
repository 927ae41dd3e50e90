use Rattle.std.proofs.Common.{map, sym, subst}
use Rattle.def_text.specs.Faults.{misplaced, too_deep, too_large}
use Rattle.def_refusal.specs.RefusedItems.{IsShapelessItem}
use Rattle.def_refusal.proofs.OneItem.{shapeless_of_terms, shapeless_of_none}
use Rattle.tn_term.specs.Views.{tree_of}
use Rattle.tn_refusal.proofs.RefusedItems.{long_no_terms, denied_no_terms}
use Rattle.tn_refusal.proofs.refused_item.item_of_text.Goals as goal

pub returns-in_ok-item_of_terms-in-Ok : goal.returns-in_ok-item_of_terms-in-Ok
returns-in_ok-item_of_terms-in-Ok g c =
    subst (IsShapelessItem c.args.text.now c.args.form) (sym c.in_ok-item_of_terms-in-Ok.ensures) (shapeless_of_terms c.args.text.now (map (tree_of {A = g.row.A.Denot}) c.in-Ok.terms.items) c.args.form c.in-Ok.ensures)

pub returns-in-Err-TooLong : goal.returns-in-Err-TooLong
returns-in-Err-TooLong g c = shapeless_of_none c.args.text.now c.args.form (long_no_terms c.args.text.now (rw c.in-Err-TooLong.field-0-is at c.in-Err-TooLong.ensures))

pub returns-in-Err-Token : goal.returns-in-Err-Token
returns-in-Err-Token g c = shapeless_of_none c.args.text.now c.args.form (denied_no_terms c.args.text.now misplaced _ (rw c.in-Err-Token.field-0-is at c.in-Err-Token.ensures))

pub returns-in-Err-TooDeep : goal.returns-in-Err-TooDeep
returns-in-Err-TooDeep g c = shapeless_of_none c.args.text.now c.args.form (denied_no_terms c.args.text.now too_deep _ (rw c.in-Err-TooDeep.field-0-is at c.in-Err-TooDeep.ensures))

pub returns-in-Err-TooLarge : goal.returns-in-Err-TooLarge
returns-in-Err-TooLarge g c = shapeless_of_none c.args.text.now c.args.form (denied_no_terms c.args.text.now too_large _ (rw c.in-Err-TooLarge.field-0-is at c.in-Err-TooLarge.ensures))
