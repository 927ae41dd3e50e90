use Rattle.std.proofs.Common.{is_some, ap, sym, ◌∙◌}
use Rattle.tn_fun.specs.Tokens.{fun_token_seen}
use Rattle.tn_fun.specs.Clauses.{first_seen}
use Rattle.tn_fun.specs.FunStates.{ends_head}
use Rattle.tn_fun.proofs.OtherKinds.{not_is, ends_match, ends_none}
use Rattle.tn_fun.proofs.head_step.ends_head.Goals as goal

pub returns-in-Match : goal.returns-in-Match
returns-in-Match g c = λ text u more.
    let a = first_seen text c.args.first.now in
    not_is c.is_none.result (is_some c.args.first.now) (sym c.is_none.ensures) ∙ ends_match text c.args.first.now ∙ ap (λ k. ends_head a (fun_token_seen k u more)) (sym c.in-Match.is)

pub returns-in_default : goal.returns-in_default
returns-in_default g c = λ text u more. ends_none c.args.kind (first_seen text c.args.first.now) u more (λ e. c.in_default.not-CloseParen e) (λ e. c.in_default.not-Match e)
