use Rattle.std.proofs.Common.{map}
use Rattle.def_script.specs.Exports.{exports_of}
use Rattle.def_run.specs.Run.{event_item}
use Rattle.tn_flags.specs.Views.{event_of}
use Rattle.tn_program.specs.Views.{program_of}
use Rattle.tn_picture.specs.Painters.{sessions_at}
use Rattle.tn_picture.proofs.PaintedMoves.{move_painted}
use Rattle.tn_picture.proofs.painter.PainterObserver.see.Goals as goal

pub returns-clause-ok : goal.returns-clause-ok
returns-clause-ok g c = λ picks seen looked next.
    let p = program_of c.args.program.now in
    let made = c.in_ok-put_events.ensures (exports_of p) (sessions_at p picks) seen in
    move_painted p picks c.args.entry (map event_item (map event_of c.args.events.now.items)) c.args.self.now c.put_events.new.self c.args.out.now c.put_events.new.rows next made.0 made.1
