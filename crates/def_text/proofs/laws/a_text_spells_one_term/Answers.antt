use Rattle.def_text.proofs.One.{one, refused}
use Rattle.def_text.proofs.Either.{once, either}
use Rattle.def_text.proofs.laws.a_text_spells_one_term.Goals as goal

pub returns : goal.returns
returns c = record { one = one; refused = refused; once = once; either = either }
