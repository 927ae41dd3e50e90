use Rattle.std.proofs.Common.{Some, ap, ap₂, sym, ◌∙◌, ◌≡◌, ◌-◌, length, arith, inl, inr}
use Rattle.def_fun.specs.FunTexts.{no_such_call, printed_call}
use Rattle.tn_term.specs.Views.{tree_of}
use Rattle.tn_fun.specs.Tokens.{operator_seen}
use Rattle.tn_spec.specs.Names.{position_seen}
use Rattle.tn_spec.specs.Views.{dialect_of}
use Rattle.tn_fun_text.specs.Calls.{printed_call_seen}
use Rattle.tn_fun_text.specs.Checks.{fun_call_reason}
use Rattle.tn_fun_text.specs.Terms.{terms_from}
use Rattle.tn_fun_text.specs.Values.{computation_at}
use Rattle.def_fun.specs.FunTexts.{would_compute}
use Rattle.tn_fun_text.proofs.Places.{counted}
use Rattle.tn_fun_text.proofs.Checks.{between_says, before_says}
use Rattle.tn_fun_text.proofs.check.check_call.Goals as goal

pub returns-in-Between : goal.returns-in-Between
returns-in-Between g c =
    let w = c.args.scope in
    let d = dialect_of w.dialect in
    let part = position_seen w.part in
    let v = c.args.terms.now in
    let stored = v.ok.0 in
    let s = c.args.name.now in
    let some : c.len-count.result - 1 ≡ length v.items - 1 = omega arith in
    let kind = c.printed_call.ensures ∙ ap₂ (printed_call d part) c.text.ensures.text (counted v.items (c.len-count.result - 1) some) in
    elim c.in-Between.is [
      | inl p ↦ between_says d part s (tree_of c.args.term.now) (terms_from 1 v) (would_compute (computation_at w s v)) (operator_seen p.0) c.check_operator.result (sym (ap printed_call_seen p.1) ∙ kind) c.check_operator.ensures
      | inr p ↦ before_says d part s (tree_of c.args.term.now) (terms_from 1 v) (would_compute (computation_at w s v)) (operator_seen p.0) c.check_operator.result (sym (ap printed_call_seen p.1) ∙ kind) c.check_operator.ensures
    ]

pub returns-in-Call : goal.returns-in-Call
returns-in-Call g c =
    let w = c.args.scope in
    let d = dialect_of w.dialect in
    let part = position_seen w.part in
    let v = c.args.terms.now in
    let stored = v.ok.0 in
    let s = c.args.name.now in
    let some : c.len-count.result - 1 ≡ length v.items - 1 = omega arith in
    let kind = c.printed_call.ensures ∙ ap₂ (printed_call d part) c.text.ensures.text (counted v.items (c.len-count.result - 1) some) in
    ap (λ k. fun_call_reason k s (tree_of c.args.term.now) (terms_from 1 v) (would_compute (computation_at w s v))) (sym kind ∙ ap printed_call_seen c.in-Call.is)

pub returns-in-Nothing : goal.returns-in-Nothing
returns-in-Nothing g c =
    let w = c.args.scope in
    let d = dialect_of w.dialect in
    let part = position_seen w.part in
    let v = c.args.terms.now in
    let stored = v.ok.0 in
    let s = c.args.name.now in
    let some : c.len-count.result - 1 ≡ length v.items - 1 = omega arith in
    let many = counted v.items (c.len-count.result - 1) some in
    let kind = c.printed_call.ensures ∙ ap₂ (printed_call d part) c.text.ensures.text many in
    ap (λ k. fun_call_reason k s (tree_of c.args.term.now) (terms_from 1 v) (would_compute (computation_at w s v))) (sym kind ∙ ap printed_call_seen c.in-Nothing.is)
    ∙ ap₂ (λ u m. Some (no_such_call u m)) (sym c.text-in-Nothing.ensures.text) (sym many)
