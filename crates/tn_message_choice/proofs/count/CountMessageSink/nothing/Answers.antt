use Rattle.std.proofs.Common.{refl, arith}
use Rattle.tn_message_choice.proofs.count.CountMessageSink.nothing.Goals as goal

pub returns : goal.returns
returns g c = (omega arith, λ _. refl)
