use Rattle.std.proofs.Common.{◌≡◌, true, Ok, ap, sym, ◌∙◌, subst, arith, rules}
use mir.Syntax.{w64}
use mir.Val.{SFits, to_z, of_z}
use Rattle.std.proofs.lemmas.Int.{to_z-of_z}
use Rattle.def_term.specs.Tree.{int}
use Rattle.def_text.specs.Reading.{put, leaf_at}
use Rattle.tn_term.proofs.Views.{tree_of_int}
use Rattle.tn_text.specs.Stack.{frames_of, StepsReading}
use Rattle.tn_text.proofs.Leaves.{fits_here}
use Rattle.tn_text.proofs.leaf.put_integer.Goals as goal

pub returns-in-Some : goal.returns-in-Some
returns-in-Some g c = λ rest n h.
    let fs = frames_of c.args.frames.items in
    let m = c.in-Some.n in
    let short = c.requires in
    let fits : SFits w64 m = search rules in
    let back = to_z-of_z w64 m fits in
    let is : n ≡ m = c.in-Some.ensures.1 rest n h in
    subst (λ k. StepsReading c.put_term.result (leaf_at 32 true (int k) fs)) (sym is)
    (fits_here c.put_term.result (int m) fs (omega (arith, short)) c.in-Some.ensures.0
    (subst (λ t. StepsReading c.put_term.result (Ok (put t fs))) (tree_of_int _ (to_z w64 (of_z w64 m)) ∙ ap int back) c.put_term.ensures))
