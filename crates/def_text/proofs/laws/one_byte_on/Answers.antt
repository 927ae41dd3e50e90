use Rattle.def_text.proofs.Columns.{on}
use Rattle.def_text.proofs.laws.one_byte_on.Goals as goal

pub returns : goal.returns
returns c = on
