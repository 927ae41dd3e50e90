use Rattle.def_text.proofs.WrittenText.{integers, pids, atoms}
use Rattle.def_text.proofs.laws.a_leaf_is_written_as_its_token.Goals as goal

pub returns : goal.returns
returns c = record { integers = integers; pids = pids; atoms = atoms }
