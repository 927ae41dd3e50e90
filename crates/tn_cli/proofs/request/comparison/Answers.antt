use Rattle.std.proofs.Common.{rules, inr, refl}
use Rattle.tn_cli.proofs.request.comparison.Goals as goal

pub returns-clause-asks : goal.returns-clause-asks
returns-clause-asks c = inr (refl, search rules)
