use Rattle.std.proofs.Common.{◌≡◌, ◌∙◌, ◌++◌, codes, decimal, length, ap₂, append_assoc, arith}
use Rattle.def_wording.specs.RuleTexts.{function_text, many_steps, rule_reason_text}
use Rattle.tn_refusal.specs.RuleViews.{callee_seen}
use Rattle.tn_refusal.proofs.Writes.{after_ok, grown, read_as}
use Rattle.tn_refusal.proofs.limits.put_steps.Goals as goal

pub returns : goal.returns
returns g c =
    let stored = c.args.function.now.steps.ok.0 in
    let counted : c.len.result ≡ length c.args.function.now.steps.items = omega (arith, stored) in
    let named = callee_seen c.declared_by.result in
    let o = c.args.out.now.items in
    let first = c.put_number.new.out.items in
    let number = decimal c.len.result in
    let words = codes " steps in function " in
    read_as c.put_callee.result o (((codes ": " ++ number) ++ words) ++ function_text named) _ c.put_callee.new.out.items (ap₂ (λ n f. rule_reason_text (many_steps n f)) counted c.declared_by.ensures)
    (after_ok c.put_callee.result o ((codes ": " ++ number) ++ words) (function_text named) (first ++ words) c.put_callee.new.out.items
    (grown o (codes ": " ++ number) first words (c.in_ok-put_number.ensures ∙ append_assoc o (codes ": ") number)) c.put_callee.ensures)
