use Rattle.std.proofs.Common.{◌≡◌, true, ap, sym, ◌∙◌, get_or, arith, rules}
use Rattle.std.specs.Str.{bytes_eq}
use Rattle.tn_process.specs.Bindings.{bound_name}
use Rattle.tn_process.proofs.Distinct.{placed}
use Rattle.tn_process.proofs.env.Env.guess.Goals as goal

pub returns-in-Some : goal.returns-in-Some
returns-in-Some g c =
    let at = c.in-Some.ensures.lookup in
    let xs = c.args.self.now.values.items in
    let x = c.args.name.now in
    let b = c.in-Some.binding.now in
    let i = c.guess-guess.result in
    let named : bytes_eq (bound_name b) x ≡ true = search rules in
    placed bound_name xs x i b c.args.self.now.once
    (omega (arith, at.3.0, c.deref-2.ensures.len, c.args.self.now.values.ok.0))
    (ap (λ ys. bytes_eq (bound_name (get_or ys i b)) x) (sym c.deref-2.ensures.value) ∙ ap (λ y. bytes_eq (bound_name y) x) (sym at.1) ∙ named)
