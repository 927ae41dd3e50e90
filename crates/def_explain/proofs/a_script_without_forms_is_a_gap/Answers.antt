use Rattle.def_explain.proofs.EmptyScripts.{empty_script_is_gap}
use Rattle.def_explain.proofs.a_script_without_forms_is_a_gap.Goals as goal

pub returns : goal.returns
returns c = empty_script_is_gap
