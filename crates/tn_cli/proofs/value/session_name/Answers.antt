use Rattle.std.proofs.Common.{◌∙◌, sym, ap, cond}
use Rattle.tn_cli.proofs.Values.{named_inner}
use Rattle.tn_cli.proofs.value.session_name.Goals as goal

pub returns-in-Some : goal.returns-in-Some
returns-in-Some c =
    let is_name = sym c.is_inner_text.ensures ∙ c.if-is_inner_text.true in
    let named = named_inner c.args.text.now c.in-Some.name.now c.in-Some.ensures.some in
    sym (named ∙ ap (λ b. cond b c.in-Some.name.now c.args.text.now) is_name)
