use Rattle.def_message_choice.proofs.Choices.{choice_is_computed}
use Rattle.def_message_choice.proofs.a_move_is_chosen_by_a_session.Goals as goal

pub returns : goal.returns
returns c = choice_is_computed
