use Rattle.def_fun_words.proofs.NotePlaces.{notes_apply}
use Rattle.def_fun_words.proofs.laws.notes_are_where_they_apply.Goals as goal

pub returns : goal.returns
returns c = notes_apply
