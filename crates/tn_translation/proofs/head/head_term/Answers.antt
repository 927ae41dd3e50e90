use Rattle.std.proofs.Common.{sym, subst}
use Rattle.def_fun.specs.Translation.{head_term as term_of_head}
use Rattle.def_fun.specs.Variables.{names_of}
use Rattle.tn_fun.specs.Clauses.{fun_head_seen}
use Rattle.tn_fun.specs.Trees.{fun_expr_seen}
use Rattle.tn_translation.specs.Specifications.{GivesHead}
use Rattle.tn_translation.proofs.Heads.{one_part}
use Rattle.tn_translation.proofs.head.head_term.Goals as goal

pub returns-in-Alone : goal.returns-in-Alone
returns-in-Alone g c =
    let text = c.args.bytes.now in
    subst (λ h. GivesHead text c.matched_head.result (term_of_head (fun_head_seen text h)) (names_of (fun_head_seen text h))) (sym c.in-Alone.is)
    (one_part text c.matched_head.result (fun_expr_seen text c.in-Alone.part) c.first_byte.result (c.first_byte.ensures text) c.matched_head.ensures)
