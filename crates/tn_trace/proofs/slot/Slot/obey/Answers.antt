use Rattle.std.proofs.Common.{rules}
use Rattle.tn_term.specs.Views.{tree_of, alive_of}
use Rattle.tn_flags.specs.Views.{command_of}
use Rattle.tn_trace.proofs.OneSession.{obeys_own}
use Rattle.tn_trace.proofs.slot.Slot.obey.Goals as goal

pub returns-in_ok-reply : goal.returns-in_ok-reply
returns-in_ok-reply g c = λ o t fs h.
    obeys_own g.K.MessageSink.keeps g.K.MessageSink.gives o (alive_of c.args.living) t c.args.self.now h (command_of c.args.command.now) c.reply.new.self (tree_of c.in_ok-reply.field-0) (search rules) (c.in_ok-reply.ensures o t fs h)
