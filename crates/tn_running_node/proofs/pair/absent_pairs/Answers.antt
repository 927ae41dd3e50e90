use Rattle.std.proofs.Common.{◌≡◌, ◌∷◌, [], ◌++◌, List, length, refl, sym, ap, ◌∙◌, append_assoc, append-nil, arith}
use Rattle.std.specs.Option.{option_map}
use Rattle.std.specs.Vec.Iter.{into_iter_items}
use Rattle.tn_running_node.specs.Pairs.{absent_pairs}
use Rattle.tn_running_node.proofs.AbsentPairs.{absent_no_more}
use Rattle.tn_running_node.proofs.pair.absent_pairs.Goals as goal

nothing-left : {X : Type 0} (l : List X) → length l ≡ 0 → l ≡ []
nothing-left [] h = refl
nothing-left (x ∷ xs) h = absurd (omega arith)

pub loop-slot-preserved : goal.loop-slot-preserved
loop-slot-preserved g c =
    let at = c.loop-slot in
    let s = c.in-Some.slot in
    let steps : into_iter_items at.slot-iterator ≡ s ∷ into_iter_items c.next.new.self = c.in-Some.ensures.steps.0 in
    record {
      rest = append_assoc at.yielded (s ∷ []) (into_iter_items c.next.new.self) ∙ ap (λ xs. at.yielded ++ xs) (sym steps) ∙ at.invariant.rest;
      size = let was = at.invariant.size in let gone = c.in-Some.ensures.steps.1 in let short = ap length steps in omega arith;
      made = absent_no_more (option_map (λ s. s.now) c.args.session) at.yielded s at.pairs.items (sym c.is_session.ensures ∙ c.if-is_session.false) at.invariant.made;
    }

pub returns : goal.returns
returns g c =
    let at = c.loop-slot in
    let none = c.in-None.ensures.steps in
    let empty : into_iter_items at.slot-iterator ≡ [] = nothing-left _ (sym at.invariant.size ∙ none.0) in
    let all = sym (append-nil at.yielded) ∙ rw empty at at.invariant.rest ∙ c.into_iter-slot-iterator.ensures.into_iter_gives.0 in
    at.invariant.made ∙ ap (absent_pairs (option_map (λ s. s.now) c.args.session)) all
