use Rattle.def_explain.specs.Accounts.{tells}
use Rattle.tn_session.specs.Messages.{message_seen}
use Rattle.tn_explain.proofs.LineTexts.{line, both}
use Rattle.tn_explain.proofs.line.Lines.tell.Goals as goal

pub returns-clause-ok : goal.returns-clause-ok
returns-clause-ok g c =
    line c.args.self.now.name.now (tells (message_seen c.args.message.now)) _ _ _ _ c.in_ok-begin.ensures.ok
    (both _ _ _ _ _ c.in_ok-extend_from_slice.ensures.items c.in_ok-append_text.ensures.ok) c.in_ok-push.ensures.items
