use Rattle.def_fun.proofs.Translations.{as_for_sends, as_for_calls}
use Rattle.def_fun.proofs.laws.a_dialect_with_more_actions_changes_nothing.Goals as goal

pub returns : goal.returns
returns c = record { receives = as_for_sends; sends = as_for_calls }
