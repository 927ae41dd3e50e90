use Rattle.def_fun.proofs.Translations.{clauses_counted, shared}
use Rattle.def_fun.proofs.laws.each_guard_is_a_clause.Goals as goal

pub returns : goal.returns
returns c = record { counted = clauses_counted; shared = shared }
