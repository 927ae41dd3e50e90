use Rattle.tn_command.proofs.SpecNotes.{other-length-is-of-other}
use Rattle.tn_command.proofs.spec_notes.a_list_of_another_length_is_none_of_the_dialect.Goals as goal

pub returns : goal.returns
returns c = other-length-is-of-other
