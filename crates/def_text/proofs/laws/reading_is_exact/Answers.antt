use Rattle.def_text.proofs.Faults.{found, only, refused}
use Rattle.def_text.proofs.laws.reading_is_exact.Goals as goal

pub returns : goal.returns
returns c = record { found = found; only = only; refused = refused }
