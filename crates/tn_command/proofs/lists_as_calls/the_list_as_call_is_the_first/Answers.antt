use Rattle.tn_command.proofs.SpecNotes.{list-as-call-is-computed}
use Rattle.tn_command.proofs.lists_as_calls.the_list_as_call_is_the_first.Goals as goal

pub returns : goal.returns
returns c = list-as-call-is-computed
