use Rattle.std.proofs.Common.{◌∙◌, sym}
use Rattle.complete_terms.proofs.table.none.Goals as goal

pub returns : goal.returns
returns c = c.none.ensures ∙ sym c.none-2.ensures
