use Rattle.def_formats.proofs.AtomTexts.{session_head_is_read, atom_is_cut}
use Rattle.def_formats.proofs.names_are_read_as_they_are_written.Goals as goal

pub returns : goal.returns
returns c = record { session = session_head_is_read; atom = atom_is_cut }
