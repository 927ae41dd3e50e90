use Rattle.std.proofs.Common.{◌≡◌, ◌<◌, ◌-◌, subst, length, get_or}
use Rattle.tn_explore.proofs.Layers.{same_there}
use Rattle.tn_explore.proofs.layer.Layer.has.Goals as goal

pub returns-then-same : goal.returns-then-same
returns-then-same g c = λ x.
    let other = c.in-Some-get.other.now in
    let i = c.loop.place - 1 in
    let is = c.deref-in-loop.ensures.value in
    let found = c.in-Some-get.ensures.lookup in
    same_there g.S.SearchState.journal (g.S.SearchState.is_of x) c.args.self.now.states.items c.args.state.now other i c.same.result
    (subst (λ xs. i < length xs) is found.3.0) (subst (λ xs. other ≡ get_or xs i other) is found.1) (c.same.ensures x) c.if-same.true
