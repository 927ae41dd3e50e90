use Rattle.std.proofs.Common.{Some, None, refl, sym, subst}
use Rattle.tn_program.specs.Views.{program_of}
use Rattle.tn_replay.specs.Notes.{AreNotesWanted}
use Rattle.tn_replay.proofs.replay.notes_wanted.Goals as goal

pub returns-then-not-has_notes : goal.returns-then-not-has_notes
returns-then-not-has_notes g c = λ picks is. subst (λ b. AreNotesWanted b (program_of c.args.program.now) picks None) (sym c.if-not-has_notes.true) refl

pub returns : goal.returns
returns g c = λ picks is.
    subst (λ b. AreNotesWanted b (program_of c.args.program.now) picks (Some c.in_ok-notes_of.field-0)) (sym c.if-not-has_notes.false) (c.in_ok-notes_of.ensures picks is)
