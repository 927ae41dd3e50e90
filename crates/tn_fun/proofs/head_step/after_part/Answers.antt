use Rattle.std.proofs.Common.{[], true, Some, Ok, ap, sym, ◌∙◌}
use Rattle.def_fun.specs.Reading.{in_head, after_head, head_after}
use Rattle.tn_fun.specs.Tokens.{fun_token_seen}
use Rattle.tn_fun.specs.Trees.{fun_expr_seen}
use Rattle.tn_fun.specs.Clauses.{fun_head_seen, guards_seen, fun_clauses_seen, first_seen}
use Rattle.tn_fun.proofs.OtherKinds.{after_match, ends_none}
use Rattle.tn_fun.proofs.FunSteps.{never_ends}
use Rattle.tn_fun.proofs.head_step.after_part.Goals as goal

pub returns-in-CloseParen : goal.returns-in-CloseParen
returns-in-CloseParen g c = λ text u more r ends count.
    let h = c.args.head in
    let ks = fun_clauses_seen text h.earlier.clauses.items in
    let a = first_seen text h.first in
    let e = fun_expr_seen text c.args.part in (
      ap (λ k. head_after 64 true ks h.at a e (fun_token_seen k u more) r) c.in-CloseParen.is
          ∙ ap (λ x. Ok (after_head (record { earlier = ks; at = h.at; head = x; guards = [] }))) (sym (c.head_of-head.ensures text))
          ∙ ap (λ gs. Ok (after_head (record { earlier = ks; at = h.at; head = fun_head_seen text c.head_of-head.result; guards = guards_seen text gs }))) (sym c.new-guards.ensures.items),
      count,
    )

pub returns-in-Match : goal.returns-in-Match
returns-in-Match g c = λ text u more r ends count.
    let h = c.args.head in
    let ks = fun_clauses_seen text h.earlier.clauses.items in
    let a = first_seen text h.first in
    let e = fun_expr_seen text c.args.part in
    let ends_there = rw c.in-Match.is at ends in (
      ap (λ k. head_after 64 true ks h.at a e (fun_token_seen k u more) r) c.in-Match.is
          ∙ after_match ks h.at a e r ends_there
          ∙ ap (λ s. Ok (in_head ks h.at (Some e) s)) (sym (c.expr_start.ensures.start text)),
      (count, c.expr_start.ensures.counted text),
    )

pub returns-in_default : goal.returns-in_default
returns-in_default g c = λ text u more r ends count.
    let d = c.in_default in
    absurd (never_ends _ (ends_none c.args.kind (first_seen text c.args.head.first) u more (λ e. d.not-CloseParen e) (λ e. d.not-Match e)) ends)
