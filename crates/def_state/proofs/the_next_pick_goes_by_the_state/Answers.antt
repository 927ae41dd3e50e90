use Rattle.def_state.proofs.Journals.{next_messages}
use Rattle.def_state.proofs.Flags.{read_back}
use Rattle.def_state.proofs.Settings.{function_terms, other_terms}
use Rattle.def_state.proofs.Terms.{read_as}
use Rattle.def_state.proofs.the_next_pick_goes_by_the_state.Goals as goal

pub returns : goal.returns
returns c = record { messages = next_messages; flags = read_back; functions = function_terms; others = other_terms; terms = read_as }
