use Rattle.std.proofs.Common.{true, false, sym}
use Rattle.std.proofs.lemmas.Result.{IfOk-weaker}
use Rattle.tn_program.specs.Views.{program_of}
use Rattle.tn_search.specs.States.{ExploresPlanned}
use Rattle.tn_search.proofs.Reductions.{as_left}
use Rattle.tn_search.proofs.exploration.explore_as_planned.Goals as goal

pub returns-then-reduces : goal.returns-then-reduces
returns-then-reduces g c =
    let b = g.K.SearchSink.is_by_process in
    let p = program_of c.args.program.now in
    let plan = c.args.plan.now in
    let admits = g.F.RunFilter.admits c.args.filter.now in
    IfOk-weaker c.explore_reduced.result (ExploresPlanned true admits b p plan) (ExploresPlanned plan.reduces admits b p plan)
    (λ e h. as_left b p plan e true plan.reduces admits (sym c.if-reduces.true) h) c.explore_reduced.ensures

pub returns : goal.returns
returns g c =
    let b = g.K.SearchSink.is_by_process in
    let p = program_of c.args.program.now in
    let plan = c.args.plan.now in
    let admits = g.F.RunFilter.admits c.args.filter.now in
    IfOk-weaker c.explore_whole.result (ExploresPlanned false admits b p plan) (ExploresPlanned plan.reduces admits b p plan)
    (λ e h. as_left b p plan e false plan.reduces admits (sym c.if-reduces.false) h) c.explore_whole.ensures
