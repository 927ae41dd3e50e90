use Rattle.def_text.proofs.Whole.{spells}
use Rattle.def_text.proofs.laws.written_text_spells.Goals as goal

pub returns : goal.returns
returns c = spells
