use Rattle.std.proofs.Common.{sym, ap}
use Rattle.std.specs.Option.{option_map}
use Rattle.tn_session.specs.Messages.{message_seen}
use Rattle.tn_explain.specs.LineParts.{reported_or_no_flag}
use Rattle.tn_explain.proofs.LineTexts.{on_ok, other}
use Rattle.tn_explain.proofs.line.Lines.put_message.Goals as goal

pub returns-in-None-clause-ok : goal.returns-in-None-clause-ok
returns-in-None-clause-ok g c =
    on_ok c.say.result _ _
    (λ made. other c.args.self.now.name.now _ _ _ _ (sym (ap (λ x. reported_or_no_flag (option_map message_seen x)) c.in-None.is)) made)
    c.say.ensures.ok
