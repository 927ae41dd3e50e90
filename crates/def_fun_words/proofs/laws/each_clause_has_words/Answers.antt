use Rattle.def_fun_words.proofs.Counts.{counted}
use Rattle.def_fun_words.proofs.NumberedNames.{named}
use Rattle.def_fun_words.proofs.laws.each_clause_has_words.Goals as goal

pub returns : goal.returns
returns c = record { counted = counted; named = named }
