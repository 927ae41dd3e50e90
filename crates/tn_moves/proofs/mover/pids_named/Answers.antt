use Rattle.std.proofs.Common.{◌≡◌, ◌∙◌, ◌++◌, ◌+◌, ◌∷◌, [], if◌then◌else◌, sym, ap, append-nil}
use Rattle.std.specs.declared.vec.Vec.{Vec}
use Rattle.tn_script.specs.Views.{entry_of}
use Rattle.tn_moves.proofs.Readings.{pid_more}
use Rattle.tn_moves.proofs.mover.pids_named.Goals as goal
use Rattle.tn_moves.proofs.mover.pids_named.Goals.{then-branch+in_ok-push, else-branch}

pub loop-i-preserved : goal.loop-i-preserved
loop-i-preserved g c =
    let l = c.loop-i in
    let b = c.in_ok-is_written.field-0 in
    let here = l.pids.items ++ (if b then (100 + l.i) ∷ [] else []) in
    let grown : c.if-branch.pids.items ≡ here =
    elim c.if-branch.branch [
      | then-branch+in_ok-push w ↦
          ap (λ (v : Vec _ _). v.items) w.pids-is ∙ w.in_ok-push.ensures.items ∙ sym (ap (λ d. l.pids.items ++ (if d then (100 + l.i) ∷ [] else [])) w.if-branch.true)
      | else-branch w ↦
          ap (λ (v : Vec _ _). v.items) w.pids-is ∙ sym (append-nil l.pids.items) ∙ sym (ap (λ d. l.pids.items ++ (if d then (100 + l.i) ∷ [] else [])) w.if-branch.false)
    ] in
    pid_more entry_of c.args.name.now c.entries-entries.result.now l.i c.index-entries-i.result b l.pids.items c.if-branch.pids.items _
    c.loop-i-test.true c.index-entries-i.is c.in_ok-is_written.ensures l.invariant grown
