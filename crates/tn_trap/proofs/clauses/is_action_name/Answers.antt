use Rattle.std.proofs.Common.{◌∙◌}
use Rattle.def_spec.specs.Reading.{found_in, table}
use Rattle.tn_spec.specs.Names.{row_seen}
use Rattle.tn_trap.proofs.Firsts.{action_row, no_row}
use Rattle.tn_trap.proofs.clauses.is_action_name.Goals as goal

pub returns-in-Some : goal.returns-in-Some
returns-in-Some c = c.is_action.ensures ∙ action_row (found_in table c.args.name.now) (row_seen c.in-Some.row) c.in-Some.ensures

pub returns-in-None : goal.returns-in-None
returns-in-None c = no_row (found_in table c.args.name.now) c.in-None.ensures
