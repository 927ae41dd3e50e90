use Rattle.std.proofs.Common.{◌≡◌}
use Rattle.tn_program.specs.Views.{program_of}
use Rattle.tn_replay.specs.Notes.{AreNotes}
use Rattle.complete_explain.proofs.OneNote.{if_both, same_notes}
use Rattle.complete_explain.proofs.notes.notes_of.Goals as goal

pub returns : goal.returns
returns g c =
    let p = program_of c.args.program.now in
    let picks = c.args.picks.now in
    if_both c.notes_of.result c.notes_of-2.result (AreNotes p picks) (AreNotes p picks) (λ n m. n ≡ m) (λ n m h i. same_notes p picks n m h i)
    (c.notes_of.ensures picks c.requires.one) (c.notes_of-2.ensures picks c.requires.other)
