use Rattle.std.proofs.Common.{◌∙◌, ◌+◌, ℕ, [], min, refl, subst}
use Rattle.def_run.specs.Run.{moves}
use Rattle.tn_program.specs.Views.{program_of}
use Rattle.tn_trace.proofs.Passes.{first_followed}
use Rattle.tn_moves.specs.Drives.{tries_of_plan}
use Rattle.tn_moves.specs.Plans.{plan_picks}
use Rattle.tn_moves.specs.declared.course.Tries.{Tries}
use Rattle.tn_moves.proofs.Drives.{driven, plan_makes}
use Rattle.tn_moves.proofs.course.drive_within.Goals as goal

pub returns-clause-driven : goal.returns-clause-driven
returns-clause-driven g c =
    let p = program_of c.args.program.now in
    let plan = c.args.plan.now in
    let limit : ℕ = min c.limit-limit.result 65536 in
    let sees = g.O.Observer.sees in
    let adds = g.O.Observer.adds in
    let exceeds = g.B.Bound.exceeds c.args.bound.now in
    let run = c.in_ok-run.run' in
    let most = c.most_moves.result in
    let tries : Tries = record { pass = c.deref.result; most = most + 1 } in
    let same = c.in_ok-run.ensures.observer in
    let start = first_followed sees p limit run (c.in_ok-run.ensures.start c.requires.start) in
    driven sees adds exceeds p limit (tries_of_plan tries plan) (moves p (plan_picks p plan)) c.args.observer run c.take_plan.new.run c.args.out.now c.take_plan.new.out c.in_ok-extent.extent
    (plan_makes p c.limit-limit.result most tries plan c.limit-limit.ensures c.most_moves.ensures refl (c.deref.ensures.value ∙ c.in_ok-pass.ensures)) same
    (c.in_ok-extent.ensures.taken limit [] start (λ more. c.requires.few (subst exceeds same more)))
