use Rattle.std.proofs.Common.{◌∙◌, arith}
use Rattle.tn_command.proofs.SpecNoteTerms.{not_three, of_three}
use Rattle.tn_command.proofs.lists_as_calls.list_in_fields.Goals as goal

pub returns-then-len-ne3 : goal.returns-then-len-ne3
returns-then-len-ne3 g c = let stored = c.args.fields.now.ok.0 in not_three c.args.fields.now.items (λ e. c.if-len-ne3.true (omega (arith, e)))

pub returns : goal.returns
returns g c =
    let stored = c.args.fields.now.ok.0 in
    c.list_in_two.ensures ∙ of_three c.args.fields.now.items c.index.result.now c.index-2.result.now (omega arith) c.index.ensures c.index-2.ensures
