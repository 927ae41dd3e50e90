use Rattle.std.proofs.Common.{ap, sym, ◌∙◌}
use Rattle.def_fun.specs.Reading.{begins_head}
use Rattle.tn_fun.specs.Tokens.{fun_token_seen}
use Rattle.tn_fun.specs.Clauses.{first_seen}
use Rattle.tn_fun.proofs.OtherKinds.{begins_list, begins_none}
use Rattle.tn_fun.proofs.head_step.begins_head.Goals as goal

pub returns-in-OpenBracket : goal.returns-in-OpenBracket
returns-in-OpenBracket g c = λ text u more.
    let a = first_seen text c.args.first.now in
    c.may_be_list.ensures text ∙ begins_list a ∙ ap (λ k. begins_head a (fun_token_seen k u more)) (sym c.in-OpenBracket.is)

pub returns-in_default : goal.returns-in_default
returns-in_default g c = λ text u more. begins_none c.args.kind (first_seen text c.args.first.now) u more (λ e. c.in_default.not-Variable e) (λ e. c.in_default.not-OpenBracket e)
