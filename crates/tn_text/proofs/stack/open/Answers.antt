use Rattle.std.proofs.Common.{◌≡◌, [], ◌∷◌, ◌++◌, map, ap, sym, ◌∙◌, arith, rules, Ok}
use Rattle.tn_text.specs.declared.stack.TheConstants.{MAX_DEPTH}
use Rattle.def_text.specs.Reading as reading
use Rattle.def_text.specs.Reading.{inside, first}
use Rattle.def_text.proofs.Steps.{opens}
use Rattle.tn_text.specs.declared.stack.Frame.{Frame}
use Rattle.tn_text.specs.Stack.{bracket_of, frames_of}
use Rattle.tn_term.specs.Views.{tree_of}
use Rattle.tn_text.proofs.Frames.{frames_push, frames_length, shut}
use Rattle.tn_text.proofs.stack.open.Goals as goal

pub returns-then-len-ge-MAX_DEPTH : goal.returns-then-len-ge-MAX_DEPTH
returns-then-len-ge-MAX_DEPTH g c =
    let size = c.args.frames.ok.0 in
    shut MAX_DEPTH (bracket_of c.args.bracket) (frames_of c.args.frames.items) (omega (arith, size, frames_length c.args.frames.items))

pub returns-in-Ok : goal.returns-in-Ok
returns-in-Ok g c =
    let size = c.args.frames.ok.0 in
    let made : Frame _ = record { bracket = c.args.bracket; items = c.new.result } in
    let back : c.push.new.self.items ≡ c.args.frames.items ++ made ∷ [] = search rules in
    opens MAX_DEPTH (bracket_of c.args.bracket) (frames_of c.args.frames.items) (omega (arith, size, frames_length c.args.frames.items))
    ∙ ap (λ fs. Ok (inside first fs)) (sym (frames_push _ c.args.frames.items made back ∙ ap (λ xs. reading.frame (bracket_of c.args.bracket) (map tree_of xs) ∷ frames_of c.args.frames.items) c.new.ensures.items))
