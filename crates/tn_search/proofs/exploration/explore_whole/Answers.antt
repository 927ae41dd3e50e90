use Rattle.std.proofs.Common.{◌≡◌, true, false}
use Rattle.def_explore.specs.Rests.{KeptMessages}
use Rattle.tn_program.specs.Views.{program_of}
use Rattle.tn_search.specs.States.{ExploresPlanned}
use Rattle.tn_search.proofs.FirstPicks.{if_some}
use Rattle.tn_search.proofs.Reductions.{none_left_out}
use Rattle.tn_search.proofs.exploration.explore_whole.Goals as goal

pub returns : goal.returns
returns g c =
    let admits = g.F.RunFilter.admits c.args.filter.now in
    let Planned = ExploresPlanned false admits g.K.SearchSink.is_by_process (program_of c.args.program.now) c.args.plan.now in
    if_some (λ e. (false ≡ true → (kept : KeptMessages) → admits kept ≡ true) → Planned e) c.in_ok-found.found c.in-Some.exploration c.in-Some.is c.in_ok-found.ensures.some
    (λ left. absurd (let x : false ≡ true = left in cc))

pub unreachable-requires : goal.unreachable-requires
unreachable-requires g c = none_left_out c.in_ok-found.found c.in-None.is c.in_ok-found.ensures.none
