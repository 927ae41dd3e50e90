use Rattle.std.proofs.Common.{[]}
use Rattle.tn_program.specs.Views.{program_of}
use Rattle.tn_trace.specs.Follows.{Follows}
use Rattle.tn_trace.specs.Recorders.{HasRecorded}
use Rattle.tn_trace.specs.Runs.{IsRun}
use Rattle.tn_search.specs.declared.program_state.ProgramState.{ProgramState}
use Rattle.tn_search.proofs.Steps.{first_is, first_journal}
use Rattle.tn_search.proofs.exploration.state_after.Goals as goal

pub returns : goal.returns
returns g c =
    let Keeps = g.K.MessageSink.keeps in
    let b = g.K.SearchSink.is_by_process in
    let p = program_of c.args.program.now in
    let before = c.args.before.now in
    let places = c.args.places.now in
    let s : ProgramState g.row.A.Denot g.row.K.Denot g.row.F.Denot = record { alloc = c.args.alloc; places = c.in_ok-places.places; run = c.take_all.new.self; filter = record {} } in
    let begins : IsRun (HasRecorded Keeps) p 65536 [] c.in_ok-run.run' = c.in_ok-run.ensures.start c.in_ok-recorder.ensures in
    let follows : Follows (HasRecorded Keeps) p 65536 before c.take_all.new.self = c.in_ok-take_all.ensures.follows 65536 [] begins in
    (first_is Keeps b c.args.program.now before places s c.in_ok-places.ensures follows, first_journal Keeps b c.args.program.now before places s c.in_ok-places.ensures follows)
