use Rattle.std.proofs.Common.{◌≡◌, ◌∙◌, ℕ, ◌++◌, ◌∷◌, [], get_or, ap, sym, subst}
use Rattle.std.specs.declared.vec.Vec.{Vec}
use Rattle.tn_explore.specs.SearchStates.{HasAllMoves}
use Rattle.tn_explore.proofs.Searches.{every_move}
use Rattle.tn_random_run.proofs.Moves.{moving_more, idle_more, moving_all}
use Rattle.tn_random_run.proofs.pick.moving_among.Goals as goal
use Rattle.tn_random_run.proofs.pick.moving_among.Goals.{then-branch+in_ok-push, else-branch}

pub loop-pick-preserved : goal.loop-pick-preserved
loop-pick-preserved g c = λ a is_of.
    let J = g.S.SearchState.journal in
    let s = c.args.state.now in
    let picks = c.args.picks.now in
    let i = c.loop-pick.pick-index in
    let old = c.loop-pick.moving.items in
    let all = subst (HasAllMoves J (g.S.SearchState.is_of c.args.context.now) s) (sym c.deref.ensures.value) (every_move J (g.S.SearchState.is_of c.args.context.now) s c.in_ok-all.all.items c.in_ok-all.ensures) in
    let moves = c.in_ok-is_moving.ensures a all is_of in
    let so_far = c.loop-pick.invariant a is_of in
    elim c.if-branch.branch [
      | then-branch+in_ok-push w ↦
          let added : c.if-branch.moving.items ≡ old ++ get_or picks i 0 ∷ [] = ap (λ (v : Vec ℕ g.row.A.Denot). v.items) w.moving-is ∙ w.in_ok-push.ensures.items in
          moving_more a (J s) picks i old c.if-branch.moving.items c.in_ok-is_moving.field-0 c.loop-pick-test.true moves w.if-branch.true added so_far
      | else-branch w ↦
          let same : c.if-branch.moving.items ≡ old = ap (λ (v : Vec ℕ g.row.A.Denot). v.items) w.moving-is in
          idle_more a (J s) picks i old c.if-branch.moving.items c.in_ok-is_moving.field-0 c.loop-pick-test.true moves w.if-branch.false same so_far
    ]

pub returns : goal.returns
returns g c = λ a is_of. moving_all a (g.S.SearchState.journal c.args.state.now) c.args.picks.now c.loop-pick.pick-index c.loop-pick.moving.items c.loop-pick-test.false (c.loop-pick.invariant a is_of)
