use Rattle.std.proofs.Common.{◌∙◌, sym, ap}
use Rattle.def_session.specs.Messages.{last_message}
use Rattle.complete_code.proofs.differences.last_message.Goals as goal

pub returns : goal.returns
returns g c = c.last_message-first.ensures ∙ ap last_message c.requires ∙ sym c.last_message-second.ensures
