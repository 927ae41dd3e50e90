use Rattle.std.proofs.Common.{length, ◌∙◌}
use Rattle.tn_fun_text.proofs.Places.{not_empty}
use Rattle.tn_fun_text.proofs.Strings.{text_of_some}
use Rattle.tn_fun_text.proofs.lists.is_text.Goals as goal

pub returns-then-not-is_empty : goal.returns-then-not-is_empty
returns-then-not-is_empty g c =
    let xs = c.args.terms.now.items in
    c.are_characters.ensures ∙ text_of_some xs (not_empty c.is_empty.result _ (length xs) c.is_empty.ensures c.if-not-is_empty.true c.args.terms.now.ok.0)
