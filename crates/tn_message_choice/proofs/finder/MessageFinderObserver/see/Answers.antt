use Rattle.std.proofs.Common.{map, refl}
use Rattle.def_run.specs.Run.{event_item}
use Rattle.tn_flags.specs.Views.{event_of}
use Rattle.tn_program.specs.Views.{program_of}
use Rattle.tn_message_choice.proofs.FoundMoves.{found_move}
use Rattle.tn_message_choice.proofs.finder.MessageFinderObserver.see.Goals as goal

pub returns-clause-ok : goal.returns-clause-ok
returns-clause-ok g c = λ picks seen sight next.
    let p = program_of c.args.program.now in
    let old = c.args.self.now in
    let mid = record old { recorder = c.see.new.self } in
    let made = c.in_ok-see.ensures.ok picks seen.recorded tt next in
    found_move p picks c.args.entry (map event_item (map event_of c.args.events.now.items)) old mid c.note.new.self c.args._out.now c.args._out.now next seen made.after refl c.note.ensures.found c.note.ensures.others
