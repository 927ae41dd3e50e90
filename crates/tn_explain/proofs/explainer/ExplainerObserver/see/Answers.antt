use Rattle.std.proofs.Common.{map, refl, ap}
use Rattle.def_script.specs.Exports.{exports_of}
use Rattle.def_run.specs.Run.{event_item}
use Rattle.tn_flags.specs.Views.{event_of}
use Rattle.tn_program.specs.Views.{program_of}
use Rattle.def_explain.specs.Runs.{entries_of_move}
use Rattle.tn_node.specs.Outlooks.{outlook_seen}
use Rattle.tn_trace.specs.NamedSessions.{sessions_after}
use Rattle.tn_explain.proofs.Picks.{move_explained}
use Rattle.tn_explain.proofs.explainer.ExplainerObserver.see.Goals as goal

pub returns-clause-ok : goal.returns-clause-ok
returns-clause-ok g c = λ picks seen looked next.
    let p = program_of c.args.program.now in
    let made = c.in_ok-see.ensures.ok (exports_of p) (sessions_after p picks) seen in
    move_explained p picks c.args.entry (map event_item (map event_of c.args.events.now.items)) (outlook_seen c.args.sight) c.args.self.now (record c.args.self.now { sessions = c.see.new.self }) c.args.out.now c.see.new.out next
    (λ n. ap (λ l. entries_of_move (exports_of p) l n c.args.entry.pick (sessions_after p picks) (map event_item (map event_of c.args.events.now.items))) looked) made.0 refl made.1
