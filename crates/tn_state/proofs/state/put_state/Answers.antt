use Rattle.def_run.specs.Run.{moves}
use Rattle.tn_program.specs.Views.{program_of}
use Rattle.tn_state.proofs.state.put_state.Goals as goal

pub returns : goal.returns
returns g c =
    let p = program_of c.args.program.now in
    let d = c.in_ok-run.ensures.driven in
    c.put_run.ensures d.limit (moves p c.args.picks.now) d.run
