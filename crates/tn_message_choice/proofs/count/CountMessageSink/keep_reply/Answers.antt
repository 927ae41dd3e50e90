use Rattle.tn_term.specs.Views.{tree_of}
use Rattle.tn_message_choice.proofs.MessageCounts.{one_more_counted}
use Rattle.tn_message_choice.proofs.count.CountMessageSink.keep_reply.Goals as goal

pub returns : goal.returns
returns g c = λ xs h. one_more_counted xs (tree_of c.args._reply.now) c.args.self.now.sent c.add_one.new.self.sent c.add_one.ensures h
