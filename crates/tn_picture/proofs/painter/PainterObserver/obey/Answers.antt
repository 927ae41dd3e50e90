use Rattle.std.proofs.Common.{[], ◌∷◌, refl}
use Rattle.def_script.specs.Exports.{exports_of}
use Rattle.def_run.specs.Run.{command_item}
use Rattle.tn_flags.specs.Views.{command_of}
use Rattle.tn_program.specs.Views.{program_of}
use Rattle.tn_picture.specs.Painters.{sessions_at}
use Rattle.tn_picture.proofs.PaintedMoves.{move_painted}
use Rattle.tn_picture.proofs.painter.PainterObserver.obey.Goals as goal

pub returns-clause-ok : goal.returns-clause-ok
returns-clause-ok g c = λ picks seen next.
    let p = program_of c.args.program.now in
    let made = c.in_ok-put_command.ensures (exports_of p) refl (sessions_at p picks) seen in
    move_painted p picks c.args.entry (command_item (command_of c.args.command.now) ∷ []) c.args.self.now c.put_command.new.self c.args.out.now c.put_command.new.rows next.move made.0 made.1
