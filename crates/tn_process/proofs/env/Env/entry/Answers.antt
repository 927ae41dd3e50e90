use Rattle.std.proofs.Common.{ap, sym, ◌∙◌, Some}
use Rattle.std.proofs.lemmas.List.Quantifiers.{position-Some}
use Rattle.std.specs.Str.{bytes_eq}
use Rattle.tn_term.specs.SharedTree.{shared_tree}
use Rattle.tn_process.specs.Bindings.{bound_name}
use Rattle.tn_process.specs.Views.{name_and_term}
use Rattle.tn_process.proofs.Lookup.{found_at, found_none}
use Rattle.tn_process.proofs.env.Env.entry.Goals as goal

pub returns-in-Some : goal.returns-in-Some
returns-in-Some g c =
    let xs = c.args.self.now.values.items in
    let b = c.index.result.now in
    let at = position-Some (λ b. bytes_eq (bound_name b) c.args.name.now) xs c.in-Some.i b (sym c.place.ensures ∙ c.in-Some.is) in
    ap (λ b. Some (shared_tree b.value)) c.index.ensures ∙ sym (found_at name_and_term xs c.args.name.now c.in-Some.i b at.0 at.1 at.2)

pub returns-in-None : goal.returns-in-None
returns-in-None g c = sym (found_none name_and_term c.args.self.now.values.items c.args.name.now (sym c.place.ensures ∙ c.in-None.is))
