use Rattle.std.proofs.Common.{◌∙◌, ℕ, ap, sym}
use Rattle.std.specs.List.{filter}
use Rattle.std.specs.declared.vec.Vec.{Vec}
use Rattle.std.proofs.lemmas.List.{take_all}
use Rattle.tn_program.specs.Views.{program_of}
use Rattle.tn_search.specs.ReadyPicks.{may_move_by}
use Rattle.tn_search.proofs.ReadyPicks.{one_ready, one_unready}
use Rattle.tn_search.proofs.ready_picks.ready_picks.Goals as goal
use Rattle.tn_search.proofs.ready_picks.ready_picks.Goals.{then-may_move_by+in_ok-push, else-may_move_by}

pub loop-pick-preserved : goal.loop-pick-preserved
loop-pick-preserved g c =
    let l = c.loop-pick in
    let f = may_move_by (program_of c.args.program.now) c.args.node.now in
    let picks = c.args.picks.now in
    elim c.if-may_move_by.branch [
      | then-may_move_by+in_ok-push w ↦
          ap (λ (v : Vec ℕ g.row.A.Denot). v.items) w.ready-is ∙ w.in_ok-push.ensures.items
          ∙ one_ready f picks l.ready.items l.pick-index 0 c.loop-pick-test.true (sym c.may_move_by.ensures ∙ w.if-may_move_by.true) l.invariant
      | else-may_move_by w ↦
          ap (λ (v : Vec ℕ g.row.A.Denot). v.items) w.ready-is
          ∙ one_unready f picks l.ready.items l.pick-index 0 c.loop-pick-test.true (sym c.may_move_by.ensures ∙ w.if-may_move_by.false) l.invariant
    ]

pub returns : goal.returns
returns g c =
    let f = may_move_by (program_of c.args.program.now) c.args.node.now in
    c.loop-pick.invariant ∙ ap (filter f) (take_all c.loop-pick.pick-index c.args.picks.now c.loop-pick-test.false)
