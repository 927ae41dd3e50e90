use Rattle.std.proofs.Common.{◌∙◌, ap}
use Rattle.tn_program.specs.Views.{program_of}
use Rattle.tn_message_moves.specs.Tallies.{slot_counts, each_with_move}
use Rattle.tn_message_moves.proofs.MoveCounts.{next_numbered}
use Rattle.tn_message_moves.proofs.counter.MoveCounterObserver.see.Goals as goal

pub returns-clause-ok : goal.returns-clause-ok
returns-clause-ok g c = λ picks seen sight next.
    let p = program_of c.args.program.now in
    let made = c.in_ok-see.ensures.ok picks seen tt next in
    let r = c.see.new.self in
    let number = c.in_ok-number.number in
    record {
      after = made.after;
      added = λ are.
          c.in_ok-add_moves.ensures ∙ ap (each_with_move number (slot_counts r.slots.items)) are ∙ next_numbered r p picks c.args.entry.pick number made.after (c.in_ok-number.ensures ∙ next.numbered);
    }
