use Rattle.std.proofs.Common.{◌≡◌, true, refl}
use Rattle.std.proofs.lemmas.Result.{IfOk-weaker}
use Rattle.std.specs.Prelude.{IfSome}
use Rattle.def_explore.specs.Rests.{KeptMessages}
use Rattle.tn_program.specs.Views.{program_of}
use Rattle.tn_search.specs.States.{ExploresPlanned, query_of}
use Rattle.tn_search.proofs.Reductions.{some_weaker}
use Rattle.tn_search.proofs.exploration.explore_by.Goals as goal

pub returns : goal.returns
returns g c =
    let b = g.K.SearchSink.is_by_process in
    let p = program_of c.args.program.now in
    let plan = c.args.plan.now in
    let left = c.args.leaves_out in
    let admits = g.F.RunFilter.admits c.args.filter.now in
    let some = IfOk-weaker c.explore.result _ (λ o. IfSome o (λ e. (left ≡ true → (kept : KeptMessages) → admits kept ≡ true) → ExploresPlanned left admits b p plan e))
    (λ o is. some_weaker _ _ (λ e said whole. said (query_of admits b p plan.before.now plan.places.now) (c.in_ok-first.ensures.0 admits) (λ kept. refl) whole c.in_ok-first.ensures.1) o is)
    c.explore.ensures.some in
    record { some = some; none = c.explore.ensures.none }
