use Rattle.std.proofs.Common.{map}
use Rattle.def_script.specs.Exports.{exports_of}
use Rattle.def_run.specs.Run.{event_item}
use Rattle.tn_flags.specs.Views.{event_of}
use Rattle.tn_program.specs.Views.{program_of}
use Rattle.tn_trace.specs.NamedSessions.{sessions_after}
use Rattle.tn_remark.specs.TextLines.{texts_seen}
use Rattle.tn_replay.proofs.Remarks.{events_said, move_remarked}
use Rattle.tn_replay.proofs.remark_observer.RemarkObserverObserver.see.Goals as goal

pub returns-clause-ok : goal.returns-clause-ok
returns-clause-ok g c = λ picks seen sight next.
    let p = program_of c.args.program.now in
    let events = map event_of c.args.events.now.items in
    let made = c.in_ok-see.ensures.ok picks seen tt next in
    move_remarked p picks c.args.entry (map event_item events) c.args.self.now (record c.args.self.now { recorder = c.see.new.self }) c.args._out.now c.args._out.now next made.after (events_said (exports_of p) (sessions_after p picks) events (texts_seen c.args._out.now.items))
