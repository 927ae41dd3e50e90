use Rattle.std.proofs.Common.{◌≡◌, true, false}
use Rattle.std.proofs.lemmas.Result.{IfOk-weaker}
use Rattle.def_explore.specs.Rests.{KeptMessages}
use Rattle.tn_program.specs.Views.{program_of}
use Rattle.tn_search.specs.States.{ExploresPlanned}
use Rattle.tn_search.proofs.FirstPicks.{if_some}
use Rattle.tn_search.proofs.Reductions.{whole_says_more}
use Rattle.tn_search.proofs.exploration.explore_reduced.Goals as goal

pub returns-then-not-is_open : goal.returns-then-not-is_open
returns-then-not-is_open g c =
    let b = g.K.SearchSink.is_by_process in
    let p = program_of c.args.program.now in
    let plan = c.args.plan.now in
    let admits = g.F.RunFilter.admits c.args.filter.now in
    IfOk-weaker c.explore_whole.result (ExploresPlanned false admits b p plan) (ExploresPlanned true admits b p plan) (λ e h. whole_says_more b p plan e admits h) c.explore_whole.ensures

pub returns-in-Some : goal.returns-in-Some
returns-in-Some g c =
    let admits = g.F.RunFilter.admits c.args.filter.now in
    let Planned = ExploresPlanned true admits g.K.SearchSink.is_by_process (program_of c.args.program.now) c.args.plan.now in
    if_some (λ e. (true ≡ true → (kept : KeptMessages) → admits kept ≡ true) → Planned e) c.in_ok-found.found c.in-Some.exploration c.in-Some.is c.in_ok-found.ensures.some
    (λ left. c.is_open.ensures c.if-not-is_open.false)

pub returns-in-None : goal.returns-in-None
returns-in-None g c =
    let b = g.K.SearchSink.is_by_process in
    let p = program_of c.args.program.now in
    let plan = c.args.plan.now in
    let admits = g.F.RunFilter.admits c.args.filter.now in
    IfOk-weaker c.explore_whole-in-None.result (ExploresPlanned false admits b p plan) (ExploresPlanned true admits b p plan) (λ e h. whole_says_more b p plan e admits h) c.explore_whole-in-None.ensures
