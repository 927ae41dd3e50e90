use Rattle.def_text.proofs.ScriptFaults.{found, only, refused}
use Rattle.def_text.proofs.laws.reading_a_script_is_exact.Goals as goal

pub returns : goal.returns
returns c = record { found = found; only = only; refused = refused }
