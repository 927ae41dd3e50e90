use Rattle.std.proofs.Common.{◌+◌, ◌∙◌, ℕ, sym, subst}
use Rattle.std.proofs.lemmas.Result.{IfOk-weaker}
use Rattle.tn_explore.specs.Query.{Query, AdmitsFor}
use Rattle.tn_explore.specs.SearchStates.{HasEnoughPicks, FollowsAllBy}
use Rattle.tn_explore.specs.Searches.{IsAt, AreAt, TriesState, answer_entries}
use Rattle.tn_explore.proofs.Searches.{state_moves, state_rests, state_ends}
use Rattle.tn_explore.proofs.search.try_state.Goals as goal

pub returns-then-not-branch : goal.returns-then-not-branch
returns-then-not-branch g c =
    let J = g.S.SearchState.journal in
    let I = (g.S.SearchState.is_of c.args.context.now) in
    let s = c.args.state.now in
    let F = g.S.SearchState.filters in
    let left = c.args.choice.now.leaves_out in
    let old = c.args.next.now.states.items in
    let es = answer_entries g.S.SearchState.kept_seen c.args.answers.now.entries in
    let fs = answer_entries g.S.SearchState.kept_seen c.answer.new.answers.entries in
    IfOk-weaker c.answer.result _ (λ _. (a : Query) (depth : ℕ) → F c.args.choice.now.filter.now a → FollowsAllBy left a → AreAt J I a (depth + 1) old → IsAt J I a depth s → TriesState J I left a (depth + 1) s old old es fs)
    (λ _ answers a depth filters whole at here. state_ends J I F c.args.choice.now.filter.now left a (depth + 1) s old es fs c.in_ok-is_admitted.field-0 c.if-not-branch.true here.is_of filters at (c.in_ok-is_admitted.ensures c.args.context.now) (answers c.args.context.now)) c.answer.ensures

pub returns-then-moved : goal.returns-then-moved
returns-then-moved g c = λ a depth filters whole at here.
    let J = g.S.SearchState.journal in
    let I = (g.S.SearchState.is_of c.args.context.now) in
    let s = c.args.state.now in
    let F = g.S.SearchState.filters in
    let left = c.args.choice.now.leaves_out in
    let all = subst (HasEnoughPicks J I left s) (sym c.deref.ensures.value) c.in_ok-picks.ensures in
    let inside : AdmitsFor a (J s) = c.in_ok-is_admitted.ensures c.args.context.now a here.is_of filters ∙ c.if-not-branch.false in
    state_moves J I a (depth + 1) s c.deref.result.now c.args.next.now.states.items c.try_picks.new.next.states.items left (answer_entries g.S.SearchState.kept_seen c.args.answers.now.entries) c.in_ok-moved.moved c.if-moved.true inside (all a here.is_of whole) (c.in_ok-moved.ensures a depth inside at here)

pub returns : goal.returns
returns g c =
    let J = g.S.SearchState.journal in
    let I = (g.S.SearchState.is_of c.args.context.now) in
    let s = c.args.state.now in
    let F = g.S.SearchState.filters in
    let left = c.args.choice.now.leaves_out in
    let old = c.args.next.now.states.items in
    let new = c.try_picks.new.next.states.items in
    let es = answer_entries g.S.SearchState.kept_seen c.args.answers.now.entries in
    let fs = answer_entries g.S.SearchState.kept_seen c.answer-2.new.answers.entries in
    let all = subst (HasEnoughPicks J I left s) (sym c.deref.ensures.value) c.in_ok-picks.ensures in
    let inside : (a : Query) → I s a → F c.args.choice.now.filter.now a → AdmitsFor a (J s) = λ a is_of filters. c.in_ok-is_admitted.ensures c.args.context.now a is_of filters ∙ c.if-not-branch.false in
    IfOk-weaker c.answer-2.result _ (λ _. (a : Query) (depth : ℕ) → F c.args.choice.now.filter.now a → FollowsAllBy left a → AreAt J I a (depth + 1) old → IsAt J I a depth s → TriesState J I left a (depth + 1) s old new es fs)
    (λ _ answers a depth filters whole at here. state_rests J I a (depth + 1) s c.deref.result.now old new left es fs c.in_ok-moved.moved c.if-moved.false here.is_of (all a here.is_of whole) (c.in_ok-moved.ensures a depth (inside a here.is_of filters) at here) (answers c.args.context.now)) c.answer-2.ensures
