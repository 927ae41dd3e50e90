use Rattle.std.proofs.Common.{◌≡◌, ◌∙◌, ap, map, Some, None}
use Rattle.std.specs.List.{insert}
use Rattle.def_spec.specs.Matching.{value_bound}
use Rattle.tn_guard.specs.Views.{value_seen}
use Rattle.tn_head.specs.Views.{binding_seen}
use Rattle.tn_head.specs.declared.bindings.Binding.{Binding}
use Rattle.tn_head.proofs.Walk.{met_again, met_first, inserted, place_in}
use Rattle.tn_head.proofs.matching.meet.Goals as goal

pub returns-in-Some : goal.returns-in-Some
returns-in-Some g c =
    let known : Some (value_seen c.in-Some.first) ≡ value_bound (map binding_seen c.args.bound.now.items) c.args.number =
    c.in-Some.ensures ∙ ap (λ xs. value_bound (map binding_seen xs) c.args.number) c.as_slice.ensures in
    met_again c.args.number (value_seen c.args.value) (value_seen c.in-Some.first) (map binding_seen c.args.bound.now.items) c.same.result known c.same.ensures

pub returns-in_ok-insert-in-None : goal.returns-in_ok-insert-in-None
returns-in_ok-insert-in-None g c =
    let xs = c.args.bound.now.items in
    let b : Binding g.row.A.Denot = record { number = c.args.number; value = c.args.value } in
    let unknown : None ≡ value_bound (map binding_seen xs) c.args.number = c.in-None.ensures ∙ ap (λ ys. value_bound (map binding_seen ys) c.args.number) c.as_slice.ensures in
    let place = c.place_of-place.ensures.place ∙ ap (place_in b) c.as_slice-in-None.ensures in
    met_first c.args.number (value_seen c.args.value) (map binding_seen xs) _ unknown
    (ap (map binding_seen) (c.in_ok-insert-in-None.ensures.ok ∙ ap (λ i. insert xs i b) place) ∙ inserted b xs unknown)
