use Rattle.def_explain.proofs.CommandDifferences.{command_difference_is_computed}
use Rattle.def_explain.proofs.Logic.{logic_difference_is_computed}
use Rattle.def_explain.proofs.Differences.{body_difference_is_computed, order_difference_is_computed, list_difference_is_computed, event_difference_is_computed, step_difference_is_computed}
use Rattle.def_explain.proofs.a_difference_is_where_it_applies.Goals as goal

pub returns-clause-body : goal.returns-clause-body
returns-clause-body c = body_difference_is_computed

pub returns-clause-event : goal.returns-clause-event
returns-clause-event c = event_difference_is_computed

pub returns-clause-order : goal.returns-clause-order
returns-clause-order c = order_difference_is_computed

pub returns-clause-step : goal.returns-clause-step
returns-clause-step c = step_difference_is_computed

pub returns-clause-logic : goal.returns-clause-logic
returns-clause-logic c = logic_difference_is_computed

pub returns-clause-list : goal.returns-clause-list
returns-clause-list c = list_difference_is_computed

pub returns-clause-command : goal.returns-clause-command
returns-clause-command c = command_difference_is_computed
