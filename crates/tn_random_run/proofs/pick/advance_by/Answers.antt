use Rattle.std.proofs.Common.{◌∙◌, ap, sym}
use Rattle.std.proofs.lemmas.Result.{IfOk-weaker}
use Rattle.tn_explore.specs.SearchStates.{AdvancesState}
use Rattle.def_random_run.specs.RandomRuns.{pick_at}
use Rattle.tn_random_run.proofs.Moves.{drawn_moves}
use Rattle.tn_random_run.proofs.pick.advance_by.Goals as goal

pub returns-in-Some : goal.returns-in-Some
returns-in-Some g c =
    let J = g.S.SearchState.journal in
    let I = g.S.SearchState.is_of c.args.context.now in
    let s = c.args.state.now in
    let t = c.advance.new.self in
    IfOk-weaker c.advance.result (AdvancesState J I c.in-Some.pick s t) _
    (λ moved gives a is_of.
    drawn_moves J I a c.args.picks.now c.args.number s c.in_ok-moving.moving.items (c.in_ok-moving.ensures a is_of) c.in-Some.pick t moved
    (ap (λ ks. pick_at ks c.args.number) (sym c.deref.ensures.value) ∙ sym c.pick_by_number.ensures ∙ c.in-Some.is) (gives a is_of)) c.advance.ensures
