use Rattle.tn_session.specs.Messages.{message_of}
use Rattle.tn_session.specs.EventTexts.{event_in}
use Rattle.tn_message_choice.proofs.MessageCounts.{one_more_counted}
use Rattle.tn_message_choice.proofs.count.CountMessageSink.keep_message.Goals as goal

pub returns-clause-kept : goal.returns-clause-kept
returns-clause-kept g c = λ xs h. one_more_counted xs (message_of (event_in c.args._text.now) c.args._message.now) c.args.self.now.sent c.add_one.new.self.sent c.add_one.ensures h

pub returns-clause-given : goal.returns-clause-given
returns-clause-given g c = λ ts h xs k. tt
