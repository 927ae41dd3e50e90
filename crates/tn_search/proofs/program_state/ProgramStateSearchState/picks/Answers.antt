use Rattle.std.proofs.Common.{◌≡◌, ◌∷◌, []}
use Rattle.std.proofs.lemmas.Result.{IfOk-weaker}
use Rattle.tn_search.specs.FirstPicks.{IsFirstPick}
use Rattle.tn_search.specs.States.{state_journal}
use Rattle.tn_search.proofs.FirstPicks.{enough_all, enough_first, if_some}
use Rattle.tn_search.proofs.program_state.ProgramStateSearchState.picks.Goals as goal

pub returns-then-not-leaves_out : goal.returns-then-not-leaves_out
returns-then-not-leaves_out g c = λ a is whole. enough_all c.args.leaves_out a (state_journal c.args.self.now) c.in_ok-picks.picks.items (c.in_ok-picks.ensures a is)

pub returns-in-Some : goal.returns-in-Some
returns-in-Some g c =
    let s = c.args.self.now in
    let left = c.if-not-leaves_out.false in
    let first = if_some (IsFirstPick g.K.MessageSink.keeps g.K.SearchSink.is_by_process c.args.context.now s) c.in_ok-first.first c.in-Some.pick c.in-Some.is c.in_ok-first.ensures in
    IfOk-weaker c.pick_alone.result (λ v. v.items ≡ c.in-Some.pick ∷ []) _
    (λ v alone a is whole. enough_first c.args.leaves_out a (state_journal s) v.items c.in-Some.pick left alone (first a is (whole left)))
    c.pick_alone.ensures

pub returns-in-None : goal.returns-in-None
returns-in-None g c = λ a is whole. enough_all c.args.leaves_out a (state_journal c.args.self.now) c.in_ok-picks.picks.items (c.in_ok-picks.ensures a is)
