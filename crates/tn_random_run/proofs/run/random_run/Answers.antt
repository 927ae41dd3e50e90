use Rattle.std.proofs.Common.{subst}
use Rattle.tn_random_run.specs.RandomStates.{IsMoveOf}
use Rattle.tn_random_run.proofs.Runs.{starts, moves_on, stops, ends}
use Rattle.tn_random_run.proofs.run.random_run.Goals as goal

pub loop-init : goal.loop-init
loop-init g c = λ a is_of. starts g.S.SearchState.journal (g.S.SearchState.is_of c.args.context.now) a c.args.picks.now c.args.moves c.args.seed c.args.first is_of

pub returns-then-not-branch : goal.returns-then-not-branch
returns-then-not-branch g c = λ a is_of.
    let J = g.S.SearchState.journal in
    let I = g.S.SearchState.is_of c.args.context.now in
    let on = c.loop.invariant a is_of in
    let t = c.advance_by.new.state in
    let none = subst (IsMoveOf J I a c.args.picks.now c.number_of.result c.loop.state t) c.if-not-branch.true (c.in_ok-advance_by.ensures a on.is_of) in
    stops J I a c.args.picks.now c.args.moves c.args.seed c.args.first c.loop.counter c.loop.last c.seed_after-last.result c.number_of.result c.loop.state t c.seed_after-last.ensures c.number_of.ensures c.loop-test.true on none

pub loop-preserved : goal.loop-preserved
loop-preserved g c = λ a is_of.
    let J = g.S.SearchState.journal in
    let I = g.S.SearchState.is_of c.args.context.now in
    let on = c.loop.invariant a is_of in
    let t = c.advance_by.new.state in
    let more = subst (IsMoveOf J I a c.args.picks.now c.number_of.result c.loop.state t) c.if-not-branch.false (c.in_ok-advance_by.ensures a on.is_of) in
    moves_on J I a c.args.picks.now c.args.moves c.args.seed c.args.first c.loop.counter c.loop.last c.seed_after-last.result c.number_of.result c.loop.state t c.seed_after-last.ensures c.number_of.ensures c.loop-test.true on more

pub returns : goal.returns
returns g c = λ a is_of. ends g.S.SearchState.journal (g.S.SearchState.is_of c.args.context.now) a c.args.picks.now c.args.moves c.args.seed c.args.first c.loop.counter c.loop.last c.loop.state c.loop-test.false (c.loop.invariant a is_of)
