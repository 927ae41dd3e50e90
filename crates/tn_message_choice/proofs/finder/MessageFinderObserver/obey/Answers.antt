use Rattle.std.proofs.Common.{[], ◌∷◌, refl}
use Rattle.def_run.specs.Run.{command_item}
use Rattle.tn_flags.specs.Views.{command_of}
use Rattle.tn_program.specs.Views.{program_of}
use Rattle.tn_message_choice.proofs.FoundMoves.{found_move}
use Rattle.tn_message_choice.proofs.finder.MessageFinderObserver.obey.Goals as goal

pub returns-clause-ok : goal.returns-clause-ok
returns-clause-ok g c = λ picks seen next.
    let p = program_of c.args.program.now in
    let old = c.args.self.now in
    let mid = record old { recorder = c.obey.new.self } in
    let made = c.in_ok-obey.ensures.ok picks seen.recorded next in
    found_move p picks c.args.entry (command_item (command_of c.args.command.now) ∷ []) old mid c.note.new.self c.args._out.now c.args._out.now next.move seen made.after refl c.note.ensures.found c.note.ensures.others
