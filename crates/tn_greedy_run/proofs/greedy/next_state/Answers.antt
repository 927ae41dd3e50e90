use Rattle.std.proofs.Common.{◌∙◌, ap, sym, refl, arith}
use Rattle.std.specs.List.{list_any}
use Rattle.tn_explore.proofs.Searches.{every_move}
use Rattle.tn_greedy_run.proofs.NextPicks.{unmoving, passed_over, found_at, not_found, none_found}
use Rattle.tn_greedy_run.proofs.greedy.next_state.Goals as goal
use Rattle.tn_greedy_run.proofs.greedy.next_state.Goals.{then-contains+in_ok-after+else-is_some+in-Some-1, then-contains+in_ok-after+else-is_some+in-None-1, else-contains}

pub loop-pick-init : goal.loop-pick-init
loop-pick-init g c = λ a filters is_of. refl

pub returns-then-is_some : goal.returns-then-is_some
returns-then-is_some g c = λ a filters is_of.
    found_at g.S.SearchState.journal (g.S.SearchState.is_of c.args.context.now) a c.args.state.now c.args.picks.now c.loop-pick.pick-index c.in_ok-after.after c.loop-pick-test.true
    (sym c.is_some.ensures ∙ c.if-is_some.true) (c.in_ok-after.ensures a filters is_of) (c.loop-pick.invariant a filters is_of)

pub loop-pick-preserved : goal.loop-pick-preserved
loop-pick-preserved g c = λ a filters is_of.
    let J = g.S.SearchState.journal in
    let I = g.S.SearchState.is_of c.args.context.now in
    let before = c.loop-pick.invariant a filters is_of in
    elim c.if-contains.branch [
      | then-contains+in_ok-after+else-is_some+in-Some-1 w ↦
          not_found J I a c.args.state.now c.args.picks.now c.loop-pick.pick-index w.in_ok-after.after c.loop-pick-test.true (sym w.is_some.ensures ∙ w.if-is_some.false) (w.in_ok-after.ensures a filters is_of) before
      | then-contains+in_ok-after+else-is_some+in-None-1 w ↦
          not_found J I a c.args.state.now c.args.picks.now c.loop-pick.pick-index w.in_ok-after.after c.loop-pick-test.true (sym w.is_some.ensures ∙ w.if-is_some.false) (w.in_ok-after.ensures a filters is_of) before
      | else-contains w ↦ passed_over J I a c.args.state.now c.args.picks.now c.loop-pick.pick-index c.loop-pick-test.true
          (unmoving J I a c.args.state.now c.in_ok-moving.moving.items _ (every_move J I c.args.state.now c.in_ok-moving.moving.items c.in_ok-moving.ensures) is_of (ap (list_any _) (sym c.deref.ensures.value) ∙ sym c.contains.ensures.value ∙ w.if-contains.false)) before
    ]

pub returns : goal.returns
returns g c = λ a filters is_of. none_found g.S.SearchState.journal (g.S.SearchState.is_of c.args.context.now) a c.args.state.now c.args.picks.now c.loop-pick.pick-index (omega (arith, c.loop-pick-test.false)) (c.loop-pick.invariant a filters is_of)
