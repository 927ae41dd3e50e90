use Rattle.std.proofs.Common.{None, Ok, ap, sym, ◌∙◌}
use Rattle.def_fun.specs.Reading.{in_head, begin_clause}
use Rattle.tn_fun.specs.Tokens.{fun_token_seen}
use Rattle.tn_fun.specs.Clauses.{fun_clauses_seen}
use Rattle.tn_fun.proofs.OtherKinds.{not_paren}
use Rattle.tn_fun.proofs.fun_step.begin_clause.Goals as goal

pub returns-in-OpenParen : goal.returns-in-OpenParen
returns-in-OpenParen g c = λ text u more count.
    let ks = fun_clauses_seen text c.args.earlier.clauses.items in
    let at = c.args.token.from in
    (ap (λ k. begin_clause ks at (fun_token_seen k u more)) c.in-OpenParen.is ∙ ap (λ s. Ok (in_head ks at None s)) (sym (c.expr_start.ensures.start text)), (count, c.expr_start.ensures.counted text))

pub returns-in_default : goal.returns-in_default
returns-in_default g c = λ text u more count. not_paren c.args.token.kind (fun_clauses_seen text c.args.earlier.clauses.items) c.args.token.from u more (λ e. c.in_default.not-OpenParen e)
