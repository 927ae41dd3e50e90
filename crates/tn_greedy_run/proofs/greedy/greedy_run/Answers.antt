use Rattle.std.proofs.Common.{subst}
use Rattle.tn_greedy_run.specs.GreedyRuns.{IsNextState}
use Rattle.tn_greedy_run.proofs.NextPicks.{starts, moves_on, stops, ends}
use Rattle.tn_greedy_run.proofs.greedy.greedy_run.Goals as goal

pub loop-init : goal.loop-init
loop-init g c = λ a filters is_of. starts g.S.SearchState.journal (g.S.SearchState.is_of c.args.context.now) a c.args.picks.now c.args.moves c.args.first is_of

pub returns-in-None : goal.returns-in-None
returns-in-None g c = λ a filters is_of.
    let J = g.S.SearchState.journal in
    let I = g.S.SearchState.is_of c.args.context.now in
    let none = subst (IsNextState J I a c.args.picks.now c.loop.state) c.in-None.is (c.in_ok-next.ensures a filters (c.loop.invariant a filters is_of).is_of) in
    stops J I a c.args.picks.now c.args.moves c.args.first c.loop.counter c.loop.state c.loop-test.true (c.loop.invariant a filters is_of) none

pub loop-preserved : goal.loop-preserved
loop-preserved g c = λ a filters is_of.
    let J = g.S.SearchState.journal in
    let I = g.S.SearchState.is_of c.args.context.now in
    let next = subst (IsNextState J I a c.args.picks.now c.loop.state) c.in-Some.is (c.in_ok-next.ensures a filters (c.loop.invariant a filters is_of).is_of) in
    moves_on J I a c.args.picks.now c.args.moves c.args.first c.loop.counter c.loop.state c.in-Some.next c.loop-test.true (c.loop.invariant a filters is_of) next

pub returns : goal.returns
returns g c = λ a filters is_of. ends g.S.SearchState.journal (g.S.SearchState.is_of c.args.context.now) a c.args.picks.now c.args.moves c.args.first c.loop.counter c.loop.state c.loop-test.false (c.loop.invariant a filters is_of)
