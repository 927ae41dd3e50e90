use Rattle.std.specs.Prelude.{replicate}
use Rattle.tn_flags.proofs.table.FlagTable.none.Goals as goal

pub returns : goal.returns
returns c = λ i. replicate 64 (c.none-none.ensures i)
