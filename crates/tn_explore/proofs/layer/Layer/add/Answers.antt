use Rattle.std.proofs.Common.{◌≡◌, ◌++◌, ◌∷◌, []}
use Rattle.std.proofs.lemmas.Result.{IfOk-weaker}
use Rattle.tn_explore.proofs.Layers.{present, absent}
use Rattle.tn_explore.proofs.layer.Layer.add.Goals as goal

pub returns-then-has : goal.returns-then-has
returns-then-has g c = λ x a depth at here. present g.S.SearchState.journal (g.S.SearchState.is_of x) c.args.self.now.states.items c.args.state a depth (λ h. c.has.ensures x c.if-has.true) at here

pub returns : goal.returns
returns g c =
    let J = g.S.SearchState.journal in
    let old = c.args.self.now.states.items in
    let new = c.put.new.self.states.items in
    IfOk-weaker c.put.result (λ _. new ≡ old ++ c.args.state ∷ []) _
    (λ _ longer x a depth at here. absent J (g.S.SearchState.is_of x) old new c.args.state a depth longer at here) c.put.ensures
