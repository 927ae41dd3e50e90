use Rattle.std.proofs.Common.{◌≡◌, ℕ, List, None, ap, sym, ◌∙◌, map, rules, ◌++◌, ◌∷◌, []}
use Rattle.std.specs.Arc.{arc_value}
use Rattle.std.specs.List.{position}
use Rattle.std.proofs.Math.Seq.{map-set_same}
use Rattle.def_script.specs.Shapes.{are_distinct}
use Rattle.tn_process.proofs.Distinct.{pushed_distinct}
use Rattle.std.proofs.lemmas.List.Quantifiers.{position-Some}
use Rattle.std.specs.Str.{bytes_eq}
use Rattle.tn_term.specs.SharedTree.{shared_tree}
use Rattle.tn_process.specs.Bindings.{bound_name}
use Rattle.tn_process.specs.Views.{name_and_term}
use Rattle.tn_process.proofs.Lookup.{bound_at, bound_none}
use Rattle.tn_process.proofs.env.Env.bind.Goals as goal

pub returns-in-Some : goal.returns-in-Some
returns-in-Some g c =
    let xs = c.args.self.now.values.items in
    let x = c.args.name.now in
    let b = c.index_mut.result.now in
    let at = position-Some (λ b. bytes_eq (bound_name b) x) xs c.in-Some.i b (search rules) in
    bound_at name_and_term xs x (shared_tree c.args.value) c.in-Some.i b (record { name = b.name; value = c.args.value }) at.0 at.1 at.2
    (ap (λ b. (bound_name b, shared_tree c.args.value)) c.index_mut.ensures.value)

pub returns-in_ok-push-in-None : goal.returns-in_ok-push-in-None
returns-in_ok-push-in-None g c =
    let xs = c.args.self.now.values.items in
    let x = c.args.name.now in
    let n = c.in_ok-name-in-None.name in
    let items : c.push.new.self.items ≡ xs ++ record { name = n; value = c.args.value } ∷ [] = search rules in
    ap (map name_and_term) items
    ∙ bound_none name_and_term xs x (shared_tree c.args.value) (record { name = n; value = c.args.value }) (search rules) (ap (λ (m : List ℕ). (m, shared_tree c.args.value)) (c.in_ok-name-in-None.ensures ∙ c.text-in-None.ensures.text))

pub invariant_of-self : goal.invariant_of-self
invariant_of-self g c =
    let xs = c.args.self.now.values.items in
    let b = c.index_mut.result.now in
    record { once = ap are_distinct (map-set_same bound_name xs c.in-Some.i (record { name = b.name; value = c.args.value }) b (ap bound_name c.index_mut.ensures.value)) ∙ c.args.self.now.once }

pub invariant_of-self-in-None : goal.invariant_of-self-in-None
invariant_of-self-in-None g c =
    let xs = c.args.self.now.values.items in
    let x = c.args.name.now in
    let n = c.in_ok-name-in-None.name in
    let none : position (λ b. bytes_eq (bound_name b) x) xs ≡ None =
    ap (λ m. position (λ b. bytes_eq (bound_name b) m) xs) (sym c.text.ensures.text) ∙ sym c.place.ensures ∙ c.in-None.is in
    let named : arc_value n ≡ x = c.in_ok-name-in-None.ensures ∙ c.text-in-None.ensures.text in
    record { once = pushed_distinct bound_name xs c.push.new.self.items x (record { name = n; value = c.args.value }) _ c.push.ensures.items none named c.args.self.now.once }
