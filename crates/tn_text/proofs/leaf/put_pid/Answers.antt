use Rattle.std.proofs.Common.{◌≡◌, true, Ok, sym, subst, arith}
use Rattle.def_term.specs.Tree.{pid}
use Rattle.def_text.specs.Reading.{put, leaf_at}
use Rattle.tn_term.proofs.Views.{tree_of_pid}
use Rattle.tn_text.specs.Stack.{frames_of, StepsReading}
use Rattle.tn_text.proofs.Leaves.{fits_here}
use Rattle.tn_text.proofs.leaf.put_pid.Goals as goal

pub returns-in-Some : goal.returns-in-Some
returns-in-Some g c = λ ds n h.
    let fs = frames_of c.args.frames.items in
    let m = c.in-Some.n in
    let short = c.requires in
    let is : n ≡ m = c.in-Some.ensures.1 ds n h in
    subst (λ k. StepsReading c.put_term.result (leaf_at 32 true (pid k) fs)) (sym is)
    (fits_here c.put_term.result (pid m) fs (omega (arith, short)) c.in-Some.ensures.0 (subst (λ t. StepsReading c.put_term.result (Ok (put t fs))) (tree_of_pid _ m) c.put_term.ensures))
