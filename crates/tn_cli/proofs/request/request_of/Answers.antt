use Rattle.std.proofs.Common.{rules}
use Rattle.tn_cli.proofs.request.request_of.Goals as goal

pub returns-in_default-clause-none : goal.returns-in_default-clause-none
returns-in_default-clause-none c = (search rules, search rules, search rules, search rules, search rules, search rules, search rules, search rules, search rules, search rules, search rules)
