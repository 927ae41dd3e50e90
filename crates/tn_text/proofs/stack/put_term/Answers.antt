use Rattle.std.proofs.Common.{◌≡◌, [], ◌∷◌, ◌++◌, map, ap, sym, ◌∙◌, rules, Ok}
use Rattle.std.proofs.lemmas.List.{map-append}
use Rattle.def_text.specs.Reading as reading
use Rattle.def_text.specs.Reading.{inside, behind, put}
use Rattle.tn_text.specs.declared.stack.Frame.{Frame}
use Rattle.tn_text.specs.Stack.{bracket_of, frames_of}
use Rattle.tn_term.specs.Views.{tree_of}
use Rattle.tn_text.proofs.Frames.{frames_push}
use Rattle.tn_text.proofs.stack.put_term.Goals as goal

pub returns-else-is_err-2 : goal.returns-else-is_err-2
returns-else-is_err-2 g c =
    let top = c.in-Some.top in
    let rest = c.pop.new.self.items in
    let full : Frame _ = record { bracket = top.bracket; items = c.push.new.self } in
    let taken : c.args.frames.items ≡ rest ++ top ∷ [] = search rules in
    let grown : c.push.new.self.items ≡ top.items.items ++ c.args.term ∷ [] = search rules in
    let back : c.push-in-Some.new.self.items ≡ rest ++ full ∷ [] = search rules in
    ap (λ fs. Ok (put (tree_of c.args.term) fs)) (frames_push _ rest top taken)
    ∙ sym (ap (λ fs. Ok (inside behind fs)) (frames_push _ rest full back ∙ ap (λ f. reading.frame (bracket_of top.bracket) f ∷ frames_of rest) (ap (map tree_of) grown ∙ map-append tree_of top.items.items (c.args.term ∷ []))))
