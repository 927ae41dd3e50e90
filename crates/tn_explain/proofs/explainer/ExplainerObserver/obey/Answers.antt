use Rattle.std.proofs.Common.{[], ◌∷◌, refl, sym, ap}
use Rattle.def_script.specs.Exports.{exports_of, visible}
use Rattle.def_run.specs.Run.{command_item}
use Rattle.tn_flags.specs.Views.{command_of}
use Rattle.tn_program.specs.Views.{program_of}
use Rattle.tn_node.specs.Outlooks.{outlook_seen}
use Rattle.tn_running_node.specs.NodeMoves.{outlook_after}
use Rattle.tn_trace.specs.NamedSessions.{sessions_after}
use Rattle.tn_explain.proofs.Picks.{entries_of_command, move_explained}
use Rattle.tn_explain.proofs.explainer.ExplainerObserver.obey.Goals as goal

pub returns-clause-ok : goal.returns-clause-ok
returns-clause-ok g c = λ picks seen next.
    let p = program_of c.args.program.now in
    let made = c.in_ok-obey.ensures.ok (exports_of p) (sym (ap visible c.functions.ensures)) (sessions_after p picks) seen in
    move_explained p picks c.args.entry (command_item (command_of c.args.command.now) ∷ []) (outlook_seen c.nothing.result) c.args.self.now (record c.args.self.now { sessions = c.obey.new.self }) c.args.out.now c.obey.new.out next.move
    (λ n. entries_of_command (exports_of p) (outlook_seen c.nothing.result) (outlook_after p picks c.args.entry.pick) n c.args.entry.pick (command_of c.args.command.now) (sessions_after p picks)) made.0 refl made.1
