use Rattle.std.proofs.Common.{◌≡◌, ◌∷◌, [], ◌++◌, List, length, filter, map, refl, sym, ap, ◌∙◌, append_assoc, append-nil, arith}
use Rattle.std.proofs.lemmas.List.{map-append}
use Rattle.std.proofs.lemmas.List.Elements.{filter-append}
use Rattle.std.specs.Vec.Iter.{into_iter_items}
use Rattle.def_compare.specs.Traces.{has_message}
use Rattle.tn_renaming.specs.Pairs.{lent_terms_seen}
use Rattle.tn_comparison.proofs.lists.lists_with_messages.Goals as goal

nothing_left : {X : Type 0} (l : List X) → length l ≡ 0 → l ≡ []
nothing_left [] h = refl
nothing_left (x ∷ xs) h = absurd (omega arith)

pub loop-list-preserved : goal.loop-list-preserved
loop-list-preserved g c =
    let at = c.loop-list in
    let list = c.in-Some.list in
    let steps : into_iter_items at.list-iterator ≡ list ∷ into_iter_items c.next.new.self = c.in-Some.ensures.steps.0 in
    record {
      rest = append_assoc at.yielded (list ∷ []) (into_iter_items c.next.new.self) ∙ ap (λ xs. at.yielded ++ xs) (sym steps) ∙ at.invariant.rest;
      size = let was = at.invariant.size in let gone = c.in-Some.ensures.steps.1 in let short = ap length steps in omega arith;
      made = c.in_ok-add_with_message.ensures
          ∙ ap (λ xs. xs ++ filter has_message (lent_terms_seen list ∷ [])) at.invariant.made
          ∙ sym (filter-append has_message (map lent_terms_seen at.yielded) (lent_terms_seen list ∷ []))
          ∙ ap (filter has_message) (sym (map-append lent_terms_seen at.yielded (list ∷ [])));
    }

pub returns : goal.returns
returns g c =
    let at = c.loop-list in
    let none = c.in-None.ensures.steps in
    let empty : into_iter_items at.list-iterator ≡ [] = nothing_left _ (sym at.invariant.size ∙ none.0) in
    let all = sym (append-nil at.yielded) ∙ rw empty at at.invariant.rest ∙ c.into_iter-list-iterator.ensures.into_iter_gives.0 in
    at.invariant.made ∙ ap (λ xs. filter has_message (map lent_terms_seen xs)) all ∙ ap (filter has_message) c.in_ok-list-items.ensures
