use Rattle.std.proofs.Common.{◌≡◌, ◌∙◌, sym}
use Rattle.complete_message_choice.proofs.Both.{if_both}
use Rattle.complete_message_choice.proofs.numbers.move_of_message.Goals as goal

pub returns : goal.returns
returns g c = if_both c.move_of_message.result c.move_of_message-2.result _ _ (λ m n. m ≡ n) (λ m n h i. h ∙ sym i) c.move_of_message.ensures c.move_of_message-2.ensures
