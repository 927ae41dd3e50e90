use Rattle.complete_fun_words.proofs.NoteTexts.{noted_alike}
use Rattle.complete_fun_words.proofs.notes.notes_of.Goals as goal

pub returns : goal.returns
returns g c = noted_alike c.args.one.now.bytes.now c.args.other.now.bytes.now _ _ c.requires c.notes_of.ensures c.notes_of-2.ensures
