use Rattle.std.proofs.Common.{◌∙◌, sym}
use Rattle.tn_spec.proofs.Tables.{first_here, first_later, last, found_in_parts}
use Rattle.tn_spec.proofs.table.row_named.Goals as goal

pub returns-in-Some : goal.returns-in-Some
returns-in-Some c = sym (found_in_parts c.args.text.now ∙ first_here _ _ _ c.in-Some.ensures)

pub returns-in-Some-of_list : goal.returns-in-Some-of_list
returns-in-Some-of_list c = sym (found_in_parts c.args.text.now ∙ first_later _ _ c.in_default.ensures ∙ first_here _ _ _ c.in-Some-of_list.ensures)

pub returns-in-Some-of_integer : goal.returns-in-Some-of_integer
returns-in-Some-of_integer c =
    sym (found_in_parts c.args.text.now ∙ first_later _ _ c.in_default.ensures ∙ first_later _ _ c.in_default-of_list.ensures ∙ first_here _ _ _ c.in-Some-of_integer.ensures)

pub returns-in-Some-comparison : goal.returns-in-Some-comparison
returns-in-Some-comparison c =
    sym (found_in_parts c.args.text.now ∙ first_later _ _ c.in_default.ensures ∙ first_later _ _ c.in_default-of_list.ensures ∙ first_later _ _ c.in_default-of_integer.ensures
    ∙ first_here _ _ _ c.in-Some-comparison.ensures)

pub returns-in-Some-other : goal.returns-in-Some-other
returns-in-Some-other c =
    sym (found_in_parts c.args.text.now ∙ first_later _ _ c.in_default.ensures ∙ first_later _ _ c.in_default-of_list.ensures ∙ first_later _ _ c.in_default-of_integer.ensures
    ∙ first_later _ _ c.in_default-comparison.ensures ∙ first_here _ _ _ c.in-Some-other.ensures)

pub returns : goal.returns
returns c =
    c.action.ensures
    ∙ sym (found_in_parts c.args.text.now ∙ first_later _ _ c.in_default.ensures ∙ first_later _ _ c.in_default-of_list.ensures ∙ first_later _ _ c.in_default-of_integer.ensures
    ∙ first_later _ _ c.in_default-comparison.ensures ∙ first_later _ _ c.in_default-other.ensures ∙ last _)
