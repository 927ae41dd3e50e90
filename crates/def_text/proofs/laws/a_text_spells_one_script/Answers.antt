use Rattle.def_text.proofs.Either.{script_one, script_refused, script_once, script_either}
use Rattle.def_text.proofs.laws.a_text_spells_one_script.Goals as goal

pub returns : goal.returns
returns c = record { one = script_one; refused = script_refused; once = script_once; either = script_either }
