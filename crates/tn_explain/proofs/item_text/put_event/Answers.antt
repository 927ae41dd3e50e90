use Rattle.std.proofs.Common.{false}
use Rattle.std.proofs.lemmas.Result.{on_ok_weaker}
use Rattle.def_session.specs.Messages.{elements_of}
use Rattle.tn_term.specs.Views.{tree_of}
use Rattle.tn_flags.specs.Views.{event_of}
use Rattle.tn_explain.proofs.ItemTexts.{message_elements}
use Rattle.tn_explain.proofs.item_text.put_event.Goals as goal

pub returns-clause-ok : goal.returns-clause-ok
returns-clause-ok g c =
    on_ok_weaker c.put_message.result (message_elements (tree_of c.in_ok-term.term) (elements_of false (event_of c.args.event.now)) c.args.out.now.items c.put_message.new.out.items c.in_ok-term.ensures) c.put_message.ensures.ok
