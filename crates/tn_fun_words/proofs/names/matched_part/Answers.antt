use Rattle.std.proofs.Common.{◌∙◌, sym, ap}
use Rattle.std.specs.Option.{option_map}
use Rattle.def_fun.specs.Variables.{matched_part, other_part}
use Rattle.tn_fun.specs.Trees.{token_name, fun_expr_seen}
use Rattle.tn_fun.specs.Clauses.{fun_head_seen}
use Rattle.tn_fun_words.proofs.names.matched_part.Goals as goal

pub returns-in-None : goal.returns-in-None
returns-in-None g c = λ text.
    sym (ap (λ h. matched_part (fun_head_seen text h)) c.in-Both.is
    ∙ ap (λ o. other_part o (fun_expr_seen text c.in-Both.first) (fun_expr_seen text c.in-Both.second)) (sym (c.variable_of.ensures text) ∙ ap (option_map (token_name text)) c.in-None.is))
