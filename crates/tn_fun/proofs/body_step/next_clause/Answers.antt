use Rattle.std.proofs.Common.{◌<◌, ap, sym, ◌∙◌, arith, Ok}
use Rattle.std.proofs.lemmas.List.{length-map}
use Rattle.def_fun.specs.Limits.{spec_clauses}
use Rattle.def_fun.specs.Reading.{before_clause, clauses_in_body}
use Rattle.tn_fun.specs.Trees.{fun_row_seen}
use Rattle.tn_fun.specs.Clauses.{guard_seen}
use Rattle.tn_fun.specs.FunStates.{clause_so_far_seen}
use Rattle.tn_fun.proofs.FunSteps.{fewer, one_clause_more}
use Rattle.tn_fun.proofs.body_step.next_clause.Goals as goal

pub returns : goal.returns
returns g c = λ text r count.
    let k = clause_so_far_seen text c.args.clause in
    let es = fun_row_seen text c.args.body.items in
    let guards = c.args.clause.guards in
    let size = guards.ok.0 in
    let same = length-map guards.items (guard_seen text) in
    let few : clauses_in_body k < 4096 = omega (arith, size, count, same, c.len.ensures, c.max-alternatives.ensures, c.saturating_add-count.ensures, c.if-count-ge-MAX_CLAUSES.false) in
    let added = c.in_ok-clauses.ensures text in
    let grown = ap spec_clauses added ∙ one_clause_more k.earlier (record { at = k.at; head = k.head; guards = k.guards; body = es }) in
    (fewer (clauses_in_body k) 4096 _ few ∙ ap (λ ks. Ok (before_clause ks)) (sym added), omega (arith, size, count, same, grown, c.len.ensures, c.max-alternatives.ensures, c.saturating_add-count.ensures, c.if-count-ge-MAX_CLAUSES.false))
