use Rattle.def_script.proofs.OneScript.{one_program, not_both, refused_once, either_way, exactly_one}
use Rattle.def_script.proofs.laws.a_text_is_one_script_or_refused.Goals as goal

pub returns : goal.returns
returns c = record { one = one_program; refused = not_both; once = refused_once; either = either_way; exactly = exactly_one }
