use Rattle.std.specs.Prelude.{IfOk}
use Rattle.std.proofs.lemmas.Result.{IfOk-weaker}
use Rattle.tn_messages.specs.MessageViews.{kept_seen}
use Rattle.tn_program.specs.Views.{program_of}
use Rattle.tn_search.specs.States.{ExploresProgram, is_by_process}
use Rattle.complete_explore.specs.Explorations.{ExploreAlike}
use Rattle.complete_explore.proofs.SameEntries.{programs_alike}
use Rattle.complete_explore.proofs.programs.explore_program.Goals as goal

pub returns : goal.returns
returns g c =
    let admits = g.F.RunFilter.admits c.args.filter.now in
    let left = c.args.plan.now.reduces in
    let b = is_by_process c.args.plan.now.order in
    let p = program_of c.args.programs.0.now in
    let q = program_of c.args.programs.1.now in
    let before = c.args.plan.now.before.now in
    let places = c.args.plan.now.places.now in
    let most = c.args.plan.now.max_states in
    IfOk-weaker c.explore_program-first.result (ExploresProgram left admits b p before places most) (λ e. IfOk c.explore_program-second.result (ExploreAlike kept_seen e))
    (λ e h. IfOk-weaker c.explore_program-second.result (ExploresProgram left admits b q before places most) (ExploreAlike kept_seen e) (λ f k. programs_alike left admits b p q before places most e f c.requires h k) c.explore_program-second.ensures)
    c.explore_program-first.ensures
