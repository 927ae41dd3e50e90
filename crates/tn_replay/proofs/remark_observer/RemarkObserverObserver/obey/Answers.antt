use Rattle.std.proofs.Common.{[], ◌∷◌, sym, ap}
use Rattle.def_script.specs.Exports.{exports_of, visible}
use Rattle.def_run.specs.Run.{command_item}
use Rattle.tn_flags.specs.Views.{command_of}
use Rattle.tn_term.specs.Views.{alive_of}
use Rattle.tn_program.specs.Views.{program_of}
use Rattle.tn_trace.proofs.NamedSessions.{recorded_sessions}
use Rattle.tn_command_reason.specs.CommandReasons.{command_reasons_seen}
use Rattle.tn_trace.specs.NamedSessions.{sessions_after}
use Rattle.tn_replay.proofs.Remarks.{command_said, move_remarked}
use Rattle.tn_replay.proofs.remark_observer.RemarkObserverObserver.obey.Goals as goal

pub returns-clause-ok : goal.returns-clause-ok
returns-clause-ok g c = λ picks seen next.
    let p = program_of c.args.program.now in
    let k = command_of c.args.command.now in
    let ss = sessions_after p picks in
    let made = c.in_ok-obey.ensures.ok picks seen next in
    let states = recorded_sessions (λ _ _. Unit {0}) c.args.self.now.recorder p picks seen in
    let why = c.in_ok-why.ensures (exports_of p) (sym (ap visible c.functions-functions.ensures)) (alive_of c.args.self.now.recorder.living) ss states in
    move_remarked p picks c.args.entry (command_item k ∷ []) c.args.self.now (record c.args.self.now { recorder = c.obey.new.self }) c.args.out.now c.push.new.self next.move made.after
    (command_said (exports_of p) ss k c.args.out.now.items c.push.new.self.items c.in_ok-text.text (command_reasons_seen c.in_ok-why.why) c.in_ok-push.ensures.items c.in_ok-text.ensures why)
