use Rattle.std.proofs.Common.{◌∙◌}
use Rattle.tn_messages.specs.MessageViews.{message_tree}
use Rattle.tn_trace.proofs.SinkLemmas.{one_more_seen}
use Rattle.tn_search.proofs.total_sink.TotalSinkMessageSink.keep_reply.Goals as goal

pub returns : goal.returns
returns g c = λ ms h. one_more_seen message_tree c.args.self.now.messages.items c.push.new.self.items _ _ ms c.in_ok-push.ensures.items (c.new-2.ensures ∙ c.in_ok-written.ensures ∙ c.in_ok-copy.ensures) h
