use Rattle.std.proofs.Common.{refl}
use Rattle.tn_message_choice.proofs.finder.MessageFinder.new.Goals as goal

pub returns-clause-found : goal.returns-clause-found
returns-clause-found g c = record { recorded = c.in_ok-new.ensures; found = refl }
