use Rattle.std.proofs.Common.{◌≡◌, true, false, cond, Ok, Err, rules, ap₂, sym, ◌∙◌}
use Rattle.def_fun.specs.Refusals.{list_with_tail}
use Rattle.tn_translation.proofs.tails.proper_tail.Goals as goal

pub returns-then-is_proper_tail : goal.returns-then-is_proper_tail
returns-then-is_proper_tail g c = λ text.
    let yes : c.is_proper_tail.result ≡ true = search rules in
    ap₂ (λ b n. cond b (Ok n) (Err (list_with_tail n))) (sym (c.is_proper_tail.ensures text) ∙ yes) (sym (c.first_byte-at.ensures text))

pub returns-else-is_proper_tail : goal.returns-else-is_proper_tail
returns-else-is_proper_tail g c = λ text.
    let no : c.is_proper_tail.result ≡ false = search rules in
    ap₂ (λ b n. cond b (Ok n) (Err (list_with_tail n))) (sym (c.is_proper_tail.ensures text) ∙ no) (sym (c.first_byte-at.ensures text))
