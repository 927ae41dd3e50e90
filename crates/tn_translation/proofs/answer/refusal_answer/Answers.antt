use Rattle.std.proofs.Common.{◌≡◌, [], ◌∷◌, ◌++◌, rules, refl, ap, ◌∙◌}
use Rattle.def_fun.specs.Refusals.{fun_refusal_line}
use Rattle.tn_translation.proofs.Values.{seen_refusal}
use Rattle.tn_translation.proofs.answer.refusal_answer.Goals as goal

pub returns : goal.returns
returns g c =
    let s = seen_refusal c.args.bytes.now c.args.fault c.in_default.not-OutOfMemory in
    let empty : c.new-text.result.items ≡ [] = search rules in
    let line : c.put_refusal.new.out.items ≡ fun_refusal_line s.0 = c.in_ok-put_refusal.ensures s.0 s.1 ∙ ap (λ l. l ++ fun_refusal_line s.0) empty in
    let grown : c.push.new.self.items ≡ c.put_refusal.new.out.items ++ 10 ∷ [] = search rules in
    record { answer = record { refused = refl; refusal = s.0; seen = s.1; line = grown ∙ ap (λ l. l ++ 10 ∷ []) line } }
