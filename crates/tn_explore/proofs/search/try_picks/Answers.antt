use Rattle.std.proofs.Common.{◌+◌, sym, subst, take, get_or, true}
use Rattle.tn_explore.specs.SearchStates.{StepGives}
use Rattle.tn_explore.specs.Searches.{Tries}
use Rattle.tn_explore.proofs.Tries.{tries_start, tries_idle, tries_moved, tries_end, stepped_at}
use Rattle.tn_explore.proofs.search.try_picks.Goals as goal
use Rattle.tn_explore.proofs.search.try_picks.Goals.{then-branch+in_ok-add, else-branch}

pub loop-pick-init : goal.loop-pick-init
loop-pick-init g c = λ a depth admitted at here. tries_start g.S.SearchState.journal (g.S.SearchState.is_of c.args.context.now) a (depth + 1) c.args.state.now c.args.next.now.states.items at

pub loop-pick-preserved : goal.loop-pick-preserved
loop-pick-preserved g c = λ a depth admitted at here.
    let J = g.S.SearchState.journal in
    let I = (g.S.SearchState.is_of c.args.context.now) in
    let s = c.args.state.now in
    let picks = c.args.picks.now in
    let i = c.loop-pick.pick-index in
    let old = c.args.next.now.states.items in
    let new = c.loop-pick.next.states.items in
    let t = c.loop-pick.invariant a depth admitted at here in
    let u = c.advance.new.self in
    let copy = c.in_ok-after.ensures c.args.context.now a here.is_of in
    let gives = subst (λ j. StepGives J I a j (get_or picks i 0) u c.in_ok-advance.field-0) copy.0 (c.in_ok-advance.ensures a copy.1) in
    elim c.if-branch.branch [
      | then-branch+in_ok-add w ↦
          let moves = subst (StepGives J I a (J s) (get_or picks i 0) u) w.if-branch.true gives in
          subst (λ b. Tries J I a (depth + 1) s (take (i + 1) picks) old c.if-branch.next.states.items b) (sym w.moved-is)
          (subst (λ n. Tries J I a (depth + 1) s (take (i + 1) picks) old n.states.items true) (sym w.next-is)
          (tries_moved J I a (depth + 1) s picks i old new w.add.new.self.states.items c.loop-pick.moved u c.loop-pick-test.true moves
          (w.in_ok-add.ensures c.args.context.now a (depth + 1) t.at (stepped_at J I a depth s (get_or picks i 0) u admitted here moves)) t))
      | else-branch w ↦
          let idle = subst (StepGives J I a (J s) (get_or picks i 0) u) w.if-branch.false gives in
          subst (λ b. Tries J I a (depth + 1) s (take (i + 1) picks) old c.if-branch.next.states.items b) (sym w.moved-is)
          (subst (λ n. Tries J I a (depth + 1) s (take (i + 1) picks) old n.states.items c.loop-pick.moved) (sym w.next-is)
          (tries_idle J I a (depth + 1) s picks i old new c.loop-pick.moved c.loop-pick-test.true idle t))
    ]

pub returns : goal.returns
returns g c = λ a depth admitted at here. tries_end g.S.SearchState.journal (g.S.SearchState.is_of c.args.context.now) a (depth + 1) c.args.state.now c.args.picks.now c.loop-pick.pick-index c.args.next.now.states.items c.loop-pick.next.states.items c.loop-pick.moved c.loop-pick-test.false (c.loop-pick.invariant a depth admitted at here)
