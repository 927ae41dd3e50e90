use Rattle.std.proofs.Common.{◌≡◌, ◌==◌, false, refl, sym, ◌∙◌, arith}
use Rattle.std.proofs.lemmas.Bool.Decides.{nat_tests}
use Rattle.tn_fun_text.specs.Checks.{is_dollar_const}
use Rattle.tn_fun_text.proofs.Places.{not_two}
use Rattle.tn_fun_text.proofs.Checks.{several_none}
use Rattle.tn_fun_text.proofs.check.is_const_of_dollar.Goals as goal

pub returns-else-len-eq2 : goal.returns-else-len-eq2
returns-else-len-eq2 g c =
    let stored = c.args.terms.now.ok.0 in
    let other : (c.len.result == 2) ≡ false = grind (arith, nat_tests) in
    other ∙ sym (not_two is_dollar_const false refl several_none c.args.terms.now.items (λ e. omega (arith, e)))
